use Prim.Native.Nat.{◌+◌, ◌≤◌}
use native.Mathlib.Omega.{arith}
use lib.ListN.{length}
use Rattle.model.specs.Format.{point_record}
use Rattle.parts.specs.Words.{words_at}
use Rattle.parts.proofs.PointPlans.{auto_plan, own_plan_from, low-bound}
use Rattle.parts.proofs.points.put_point.Goals as goal

pub returns-then-has_auto : goal.returns-then-has_auto
returns-then-has_auto c =
    let a = c.args in
    let e = c.put_auto-k.ensures in
    auto_plan a.t.now a.p a.l.point a.l.own.bins a.l.own.ranges a.l.own.count a.l.transitions.at a.l.transitions.count _ c.has_auto.ensures a.at a.out.now _ _ c.if-has_auto.true c.requires.near.1 c.requires.near.2 e.0 c.requires.room.0.some e.1

pub put_bins-e-requires : goal.put_bins-e-requires
put_bins-e-requires c =
    let a = c.args in
    let low = c.lowest_at-low.ensures in
    let near = c.requires.near.0 in
    record { bins_bound = (omega (arith, near.bins_near), omega (arith, near.ranges_near), omega (arith, near.few_bins), omega (arith, low, low-bound (point_record a.t.now a.l.point)), rw low c.requires.near.3); count_in_bounds = (rw low c.requires.room.0.words, rw low c.requires.room.0.parts, c.requires.room.1, c.requires.room.2) }

pub overflow_sub-result : goal.overflow_sub-result
overflow_sub-result c = omega (arith, c.put_bins-e.ensures.0)

pub returns : goal.returns
returns c =
    let a = c.args in
    let e = c.put_bins-e.ensures in
    let low = c.lowest_at-low in
    let room : a.at + length (words_at a.t.now low.result a.p 0 a.l.own.bins a.l.own.ranges a.l.own.count) ≤ length a.out.now = rw low.ensures c.requires.room.0.words in
    own_plan_from a.t.now a.p a.l.point a.l.own.bins a.l.own.ranges a.l.own.count a.l.transitions.at a.l.transitions.count _ c.has_auto.ensures a.at a.out.now _ _ _ _ low.ensures c.if-has_auto.false c.requires.near.3 e.0 e.1 (omega (arith, e.0, room)) e.2
