-- `planned::put_planned` meets its contract. Assumes nothing.
use native.Mathlib.Omega.{arith}
use Rattle.pieces.proofs.BuildLaws.{range-count-at}
use Rattle.meets.proofs.PlanRoom.{plan_need_lem}
use Rattle.sampling.proofs.Joins.{plan-within, index-small, both-within, gate-room}
use Rattle.sampling.proofs.planned.put_planned.Goals as goal

pub plan_words-need-requires : goal.plan_words-need-requires
plan_words-need-requires c =
    let p = c.requires in
    let few = index-small _ p.t_value.0 _ p.t_value.1 in
    (c.bin_sections-l.ensures.small_bins.range_count, few.0, few.1)

pub planned_with-requires-clause-t_value : goal.planned_with-requires-clause-t_value
planned_with-requires-clause-t_value c =
    let p = c.requires.t_value in
    let need = c.plan_words-need in
    let h = both-within c.args.x.points 4 need.result 768 c.if-x-need.true in
    let l = c.bin_sections-l in
    let room = plan-within _ p.0 _ (range-count-at _ l.result l.ensures.value) _ p.1 in
    (p.0, p.1, omega (arith, room, h.1, need.ensures), omega (arith, p.1.points, h.0), omega arith, omega arith)

pub planned_with-requires-then-need-le4096-clause-t_value : goal.planned_with-requires-then-need-le4096-clause-t_value
planned_with-requires-then-need-le4096-clause-t_value c =
    let p = c.requires.t_value in
    let l = c.bin_sections-l in
    let room = plan-within _ p.0 _ (range-count-at _ l.result l.ensures.value) _ p.1 in
    (p.0, p.1, omega (arith, room, c.if-need-le4096.true, c.plan_words-need.ensures), omega (arith, gate-room _ p.0), omega arith, omega arith)

pub planned_with-requires-2-clause-t_value : goal.planned_with-requires-2-clause-t_value
planned_with-requires-2-clause-t_value c =
    let p = c.requires.t_value in
    (p.0, p.1, omega (arith, plan_need_lem _ p.0), omega (arith, gate-room _ p.0), omega arith, omega arith)
