-- `rows::put_bin` meets its contract. Assumes nothing.
use lib.ListN.{length-set}
use Rattle.model.specs.Lists.{concat_of}
use Rattle.model.specs.Raw.{sequences_at}
use Rattle.runs.specs.Rows.{sequence_row}
use Rattle.runs.proofs.RowLaws.{bin_written}
use native.Mathlib.Omega.{arith}
use Rattle.runs.proofs.rows.put_bin.Goals as goal

pub bounds-plan-at-2 : goal.bounds-plan-at-2
bounds-plan-at-2 c = simp length-set (omega arith)

pub put_rows-requires : goal.put_rows-requires
put_rows-requires c =
    let pre = c.requires in
    record { q_bound = (omega arith, omega arith, omega arith, omega arith, pre.q_bound.3); n_in_bounds = simp length-set (omega (arith, pre.n_in_bounds)) }

pub returns : goal.returns
returns c =
    let a = c.args in
    let w = c.put_rows in
    record { past = w.ensures.past; at_value = (w.ensures.at_value.0, bin_written a.place.at a.point a.n (concat_of sequence_row (sequences_at a.t.now a.q a.place.steps a.place.ranges a.n)) a.plan.now w.new.plan (omega (arith, c.requires.n_in_bounds)) w.ensures.at_value.1) }
