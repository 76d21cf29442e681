-- `rows::put_ranges` meets its contract: the ranges that are left, written to the present plan, give the whole. Assumes nothing.
use Prim.Native.Nat.{◌+◌, ◌-◌, ◌*◌, ◌≤◌}
use Rattle.model.specs.Lists.{concat_of}
use Rattle.model.specs.Raw.{ranges_at}
use Rattle.arrays.proofs.Written.{Written}
use Rattle.runs.specs.Rows.{range_words}
use Rattle.runs.proofs.rows.put_ranges.Given as goal

abbrev pub invariant-loop-i : goal.invariant-loop-i
invariant-loop-i l =
    (l.i ≤ l.n) × Written l.at (concat_of (range_words l.bit) (ranges_at l.t l.r l.n)) l.initial.plan (l.at + 4 * l.i) l.plan (concat_of (range_words l.bit) (ranges_at l.t (l.r + 17 * l.i) (l.n - l.i)))
