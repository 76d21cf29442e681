-- `rows::put_step_ranges` meets its contract: the steps that are left, written to the present plan, give the whole. Assumes nothing.
use mathlib.Core.Path.{◌≡◌}
use Prim.Native.Nat.{◌+◌, ◌-◌, ◌*◌, ◌≤◌}
use Rattle.model.specs.Raw.{range_total, steps_at}
use Rattle.arrays.proofs.Written.{Written}
use Rattle.runs.specs.Rows.{step_ranges}
use Rattle.runs.proofs.rows.put_step_ranges.Given as goal

abbrev pub invariant-loop-i : goal.invariant-loop-i
invariant-loop-i l =
    (l.i ≤ l.n) × (l.total ≤ 255 * l.i) × (l.total + range_total l.t (l.p + 3 * l.i) (l.n - l.i) ≡ range_total l.t l.p l.n)
    × Written l.at (step_ranges 0 (steps_at l.t l.p l.r l.n)) l.initial.plan (l.at + 4 * l.total) l.plan (step_ranges l.i (steps_at l.t (l.p + 3 * l.i) (l.r + 17 * l.total) (l.n - l.i)))
