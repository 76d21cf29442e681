use native.Mathlib.Omega.{arith}
use Rattle.refusals.proofs.CallLaws.{known-accepted}
use Rattle.batch.proofs.PreparedLaws.{small-fits, medium-fits, largest_fits}
use Rattle.batch.proofs.classes.planned.Goals as goal

pub room_for-need-requires : goal.room_for-need-requires
room_for-need-requires c =
    let p = c.requires in
    (known-accepted _ p.0.known, p.1)

pub plan_with-requires : goal.plan_with-requires
plan_with-requires c =
    let p = c.requires in
    (p.0, p.1, p.2, small-fits _ (known-accepted _ p.0.known) _ p.1 _ c.room_for-need.ensures c.if-points-counters.true, omega arith, omega arith)

pub plan_with-requires-then-counters-need : goal.plan_with-requires-then-counters-need
plan_with-requires-then-counters-need c =
    let p = c.requires in
    (p.0, p.1, p.2, medium-fits _ (known-accepted _ p.0.known) _ p.1 _ c.room_for-need.ensures c.if-counters-need.true, omega arith, omega arith)

pub plan_with-requires-2 : goal.plan_with-requires-2
plan_with-requires-2 c =
    let p = c.requires in
    (p.0, p.1, p.2, largest_fits _ (known-accepted _ p.0.known), omega arith, omega arith)
