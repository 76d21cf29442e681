use mathlib.Core.Path.{◌≡◌}
use Prim.Native.Nat.{◌+◌, ◌-◌, ◌*◌, ◌≤◌}
use Rattle.values.specs.Points.{some_own}
use Rattle.values.proofs.points.some_own.Given as goal

abbrev pub invariant-loop-i : goal.invariant-loop-i
invariant-loop-i l = (l.i ≤ l.n) × (l.at ≤ l.start + 8 * l.i) × (some_own l.t l.p l.defaults l.size l.start l.n ≡ some_own l.t l.p l.defaults l.size l.at (l.n - l.i))
