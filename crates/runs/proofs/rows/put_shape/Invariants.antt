-- `rows::put_shape` meets its contract: the steps that are left, written to the present plan, give the whole. Assumes nothing.
use mathlib.Core.Path.{◌≡◌}
use Prim.Native.Nat.{◌+◌, ◌-◌, ◌*◌, ◌≤◌}
use Rattle.arrays.proofs.Written.{Written}
use Rattle.runs.specs.Rows.{shape_at, mosts_at}
use Rattle.runs.proofs.rows.put_shape.Given as goal

abbrev pub invariant-loop-i : goal.invariant-loop-i
invariant-loop-i l =
    (l.i ≤ l.n) × (l.total ≤ 255 * l.i) × (l.total + mosts_at l.t (l.p + 3 * l.i) (l.n - l.i) ≡ mosts_at l.t l.p l.n) × Written l.at (shape_at l.t l.p l.n) l.initial.plan (l.at + 2 * l.i) l.plan (shape_at l.t (l.p + 3 * l.i) (l.n - l.i))
