use mathlib.Core.Path.{◌≡◌}
use Prim.Native.Nat.{◌+◌, ◌-◌, ◌*◌, ◌≤◌}
use lib.ListN.{length}
use Rattle.crosses.specs.Flags.{heads_at}
use Rattle.crosses.specs.Labels.{bin_labels}
use Rattle.crosshits.proofs.counts.bin_count.Given as goal

abbrev pub invariant-loop-i : goal.invariant-loop-i
invariant-loop-i l = (l.i ≤ l.n) × (l.sum ≤ l.i) × (length (bin_labels 0 0 (heads_at l.t l.b l.n)) ≡ l.sum + length (bin_labels 0 0 (heads_at l.t (l.b + 3 * l.i) (l.n - l.i))))
