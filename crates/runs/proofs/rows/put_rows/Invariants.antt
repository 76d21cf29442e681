-- `rows::put_rows` meets its contract: the sequences that are left, written to the present plan, give the whole. Assumes nothing.
use Prim.Native.Nat.{◌+◌, ◌-◌}
use Rattle.model.specs.Lists.{concat_of}
use Rattle.model.specs.Raw.{sequences_at}
use Rattle.arrays.proofs.Written.{Written}
use Rattle.runs.specs.Rows.{sequence_row}
use Rattle.runs.proofs.Walks.{Walk}
use Rattle.runs.proofs.rows.put_rows.Given as goal

abbrev pub invariant-loop-i : goal.invariant-loop-i
invariant-loop-i l =
    Walk l.t l.q l.initial.c.steps l.initial.c.ranges l.n l.i l.c.steps l.c.ranges
    × Written l.initial.c.at (concat_of sequence_row (sequences_at l.t l.q l.initial.c.steps l.initial.c.ranges l.n)) l.initial.plan l.c.at l.plan (concat_of sequence_row (sequences_at l.t (l.q + l.i) l.c.steps l.c.ranges (l.n - l.i)))
