-- `rows::put_sequence` meets its contract. Assumes nothing.
use lib.ListN.{length-set}
use Rattle.runs.proofs.RowLaws.{row_length, row_ranges, row_written}
use native.Mathlib.Omega.{arith}
use Rattle.runs.proofs.rows.put_sequence.Goals as goal

pub overflow_add-at : goal.overflow_add-at
overflow_add-at c = let a = c.args in omega (arith, row_length a.t.now a.p a.r a.n, c.requires.3)

pub put_shape-m-requires : goal.put_shape-m-requires
put_shape-m-requires c =
    let a = c.args in
    (omega arith, omega arith, omega (arith, row_length a.t.now a.p a.r a.n, c.requires.3))

pub overflow_add-at-2 : goal.overflow_add-at-2
overflow_add-at-2 c = let a = c.args in omega (arith, row_length a.t.now a.p a.r a.n, c.requires.3)

pub overflow_add-at-3 : goal.overflow_add-at-3
overflow_add-at-3 c = let a = c.args in omega (arith, row_length a.t.now a.p a.r a.n, c.requires.3)

pub put_step_ranges-k-requires : goal.put_step_ranges-k-requires
put_step_ranges-k-requires c =
    let a = c.args in
    (omega arith, omega arith, omega arith, omega (arith, row_length a.t.now a.p a.r a.n, row_ranges a.t.now a.p a.r a.n, c.requires.3, c.put_shape-m.auto.plan))

pub bounds-plan-at : goal.bounds-plan-at
bounds-plan-at c = let a = c.args in omega (arith, row_length a.t.now a.p a.r a.n, c.requires.3, c.put_shape-m.auto.plan, c.put_step_ranges-k.auto.plan)

pub overflow_add-plan : goal.overflow_add-plan
overflow_add-plan c = let a = c.args in omega (arith, row_length a.t.now a.p a.r a.n, c.requires.3)

pub bounds-plan-at-2 : goal.bounds-plan-at-2
bounds-plan-at-2 c = let a = c.args in simp length-set (omega (arith, row_length a.t.now a.p a.r a.n, c.requires.3, c.put_shape-m.auto.plan, c.put_step_ranges-k.auto.plan))

pub overflow_add-plan-2 : goal.overflow_add-plan-2
overflow_add-plan-2 c = let a = c.args in omega (arith, row_length a.t.now a.p a.r a.n, c.requires.3)

pub bounds-plan-at-3 : goal.bounds-plan-at-3
bounds-plan-at-3 c = let a = c.args in simp length-set (omega (arith, row_length a.t.now a.p a.r a.n, c.requires.3, c.put_shape-m.auto.plan, c.put_step_ranges-k.auto.plan))

pub returns : goal.returns
returns c =
    let a = c.args in
    let m = c.put_shape-m in
    let k = c.put_step_ranges-k in (
      k.ensures.0,
      k.ensures.1,
      row_written a.t.now a.p a.r a.n a.at m.result k.result a.plan.now m.new.plan k.new.plan c.requires.3 m.ensures.0 k.ensures.0 m.ensures.1 k.ensures.2,
    )
