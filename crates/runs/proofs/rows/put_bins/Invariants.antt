-- `rows::put_bins` meets its contract: the bins that are left, written to the present plan, give the whole. Assumes nothing.
use Prim.Native.Nat.{◌+◌, ◌-◌, ◌*◌}
use Rattle.model.specs.Lists.{concat_of}
use Rattle.model.specs.Raw.{transitions_at}
use Rattle.arrays.proofs.Written.{Written}
use Rattle.runs.specs.Rows.{bin_row}
use Rattle.runs.proofs.Walks.{Bins}
use Rattle.runs.proofs.rows.put_bins.Given as goal

abbrev pub invariant-loop-i : goal.invariant-loop-i
invariant-loop-i l =
    Bins l.t l.b l.initial.sequence l.initial.place.steps l.initial.place.ranges l.n l.i l.sequence l.place.steps l.place.ranges
    × Written l.at (concat_of bin_row (transitions_at l.t l.b l.initial.sequence l.initial.place.steps l.initial.place.ranges l.n)) l.initial.plan l.place.at l.plan (concat_of bin_row (transitions_at l.t (l.b + 4 * l.i) l.sequence l.place.steps l.place.ranges (l.n - l.i)))
