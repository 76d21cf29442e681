use Prim.Native.Nat.{◌≤◌, ◌+◌, ◌*◌, ◌-◌}
use mathlib.Core.Path.{◌≡◌}
use mathlib.Core.List.{[]}
use lib.ListN.{length}
use Rattle.model.specs.Format.{read_bin_heads}
use Rattle.words.specs.Verdicts.{verdict_of}
use Rattle.check_values.specs.Places.{defaults_up_to}
use Rattle.check_values.proofs.bins.bins_fault.Given as goal

abbrev pub invariant-loop-i : goal.invariant-loop-i
invariant-loop-i l = (l.i ≤ l.n) × (l.base + 8 * l.i ≤ length l.t) × (verdict_of (read_bin_heads l.t l.points l.n [] l.base) ≡ verdict_of (read_bin_heads l.t l.points (l.n - l.i) (defaults_up_to l.t l.base l.i) (l.base + 8 * l.i)))
