use Prim.Native.Nat.{◌≤◌, ◌-◌}
use mathlib.Core.Path.{◌≡◌}
use lib.ListN.{length}
use Rattle.model.specs.Format.{read_cross, times}
use Rattle.words.specs.Verdicts.{verdict_of}
use Rattle.check_crosses.proofs.heads.crosses_of.Given as goal

abbrev pub invariant-loop-i : goal.invariant-loop-i
invariant-loop-i l = (l.i ≤ l.n) × (l.at ≤ length l.t) × (verdict_of (times l.n (read_cross l.t l.points) l.start) ≡ verdict_of (times (l.n - l.i) (read_cross l.t l.points) l.at))
