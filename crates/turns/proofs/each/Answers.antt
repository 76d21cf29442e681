use mathlib.Core.Path.{refl, ◌∙◌}
use Prim.Native.Nat.{◌-◌}
use native.Mathlib.Omega.{arith}
use lib.ListN.{length}
use borrow.Rule.Slice.PartMut.{same_len_mid}
use Rattle.std.proofs.Common.{Ok, Err}
use Rattle.turns.proofs.TurnLaws.{part-done, cut_for, going_start, going_end, going-stop, going_on}
use Rattle.turns.proofs.Counted.{counted}
use Rattle.turns.proofs.each.Goals as goal

pub loop-a-init : goal.loop-a-init
loop-a-init c =
    let a = c.args in
    (going_start _ a.s.now a.register.now a.reports.now c.requires.0, refl, refl, refl)

pub slice_bounds-one-count : goal.slice_bounds-one-count
slice_bounds-one-count c = omega (arith, c.loop-a.invariant.0.written)

pub slice_bounds-one-start : goal.slice_bounds-one-start
slice_bounds-one-start c = omega (arith, c.loop-a.invariant.0.written)

pub slice_bounds-one-end : goal.slice_bounds-one-end
slice_bounds-one-end c = omega (arith, c.loop-a.invariant.0.written)

pub slice_bounds-one-count-in-loop-a : goal.slice_bounds-one-count-in-loop-a
slice_bounds-one-count-in-loop-a c =
    let p = c.requires in
    let x = c.element-illegals in
    let y = c.point_count-points in
    let n = counted _ _ _ p.0.known p.1.planned y.result y.ensures.value x.result x.ensures in
    let v = c.args.s.now in
    let l = c.loop-a in
    let h = c.loop-a-test.true in
    let cut = cut_for c.args.t.now v _ n.0 _ _ h c.end_of-e.ensures in
    omega (arith, cut.after, cut.within)

pub slice_bounds-one-start-in-loop-a : goal.slice_bounds-one-start-in-loop-a
slice_bounds-one-start-in-loop-a c =
    let p = c.requires in
    let x = c.element-illegals in
    let y = c.point_count-points in
    let n = counted _ _ _ p.0.known p.1.planned y.result y.ensures.value x.result x.ensures in
    let v = c.args.s.now in
    let l = c.loop-a in
    let h = c.loop-a-test.true in
    let cut = cut_for c.args.t.now v _ n.0 _ _ h c.end_of-e.ensures in
    omega (arith, cut.after, cut.within)

pub slice_bounds-one-end-in-loop-a : goal.slice_bounds-one-end-in-loop-a
slice_bounds-one-end-in-loop-a c =
    let p = c.requires in
    let x = c.element-illegals in
    let y = c.point_count-points in
    let n = counted _ _ _ p.0.known p.1.planned y.result y.ensures.value x.result x.ensures in
    let v = c.args.s.now in
    let l = c.loop-a in
    let h = c.loop-a-test.true in
    let cut = cut_for c.args.t.now v _ n.0 _ _ h c.end_of-e.ensures in
    omega (arith, cut.after, cut.within)

pub one-requires : goal.one-requires
one-requires c =
    let p = c.requires in
    let l = c.loop-a in
    (l.invariant.0.ready, record { planned = p.1.planned; room = omega (arith, p.1.room, l.invariant.3) })

pub returns-in-Err : goal.returns-in-Err
returns-in-Err c =
    let p = c.requires in
    let x = c.element-illegals in
    let y = c.point_count-points in
    let n = counted _ _ _ p.0.known p.1.planned y.result y.ensures.value x.result x.ensures in
    let v = c.args.s.now in
    let l = c.loop-a in
    let h = c.loop-a-test.true in
    let cut = cut_for c.args.t.now v _ n.0 _ _ h c.end_of-e.ensures in
    let q = c.one in
    let d = part-done _ _ v l.reports l.a _ l.k (Err c.in-Err.refusal) _ q.new.report _ l.invariant.0.written c.in-Err.ensures refl in
    going-stop _ v _ _ _ _ _ _ _ l.invariant.0 h _ cut _ _ _ d c.in-Err.refusal refl

pub overflow_add-taken : goal.overflow_add-taken
overflow_add-taken c = omega (arith, c.loop-a.invariant.0.few, c.loop-a-test.true)

pub loop-a-smaller : goal.loop-a-smaller
loop-a-smaller c =
    let p = c.requires in
    let x = c.element-illegals in
    let y = c.point_count-points in
    let n = counted _ _ _ p.0.known p.1.planned y.result y.ensures.value x.result x.ensures in
    let v = c.args.s.now in
    let l = c.loop-a in
    let h = c.loop-a-test.true in
    let cut = cut_for c.args.t.now v _ n.0 _ _ h c.end_of-e.ensures in
    omega (arith, cut.after, cut.within)

pub loop-a-preserved : goal.loop-a-preserved
loop-a-preserved c =
    let p = c.requires in
    let x = c.element-illegals in
    let y = c.point_count-points in
    let n = counted _ _ _ p.0.known p.1.planned y.result y.ensures.value x.result x.ensures in
    let v = c.args.s.now in
    let l = c.loop-a in
    let h = c.loop-a-test.true in
    let cut = cut_for c.args.t.now v _ n.0 _ _ h c.end_of-e.ensures in
    let q = c.one in
    let d = part-done _ _ v l.reports l.a _ l.k (Ok c.in_default.field-0) _ q.new.report _ l.invariant.0.written c.in_default.ensures refl in
    let kept = same_len_mid l.k (length l.reports - l.k) l.reports q.new.report q.auto.report in
    (going_on _ v _ _ _ _ _ _ _ l.invariant.0 h _ cut _ _ _ d refl _ n.1, q.auto.register ∙ l.invariant.1, kept ∙ l.invariant.2, q.auto.hits ∙ l.invariant.3)

pub returns : goal.returns
returns c = going_end _ _ _ _ _ _ _ _ _ c.loop-a.invariant.0 (omega arith)
