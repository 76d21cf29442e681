use mathlib.Core.Path.{◌≡◌}
use Prim.Native.Nat.{◌≤◌}
use lib.ListN.{take, drop}
use Rattle.crosses.specs.Flags.{own_marks}
use Rattle.crosses.proofs.own.own_marks.Given as goal

abbrev pub invariant-loop-i : goal.invariant-loop-i
invariant-loop-i l = (l.i ≤ l.n) × (l.own ≡ own_marks l.mask (drop l.i (take l.n l.hits)) (drop l.i (take l.n l.marks)))
