use mathlib.Core.Path.{◌≡◌}
use Prim.Native.Nat.{◌-◌, ◌≤◌}
use Rattle.points.specs.Transitions.{lost_lengths}
use Rattle.points.proofs.transitions.lost_lengths.Given as goal

abbrev pub invariant-loop-i : goal.invariant-loop-i
invariant-loop-i l = (l.i ≤ l.n) × (lost_lengths l.t l.lens l.p l.b l.i (l.n - l.i) l.lost ≡ lost_lengths l.t l.lens l.p l.b 0 l.n 0)
