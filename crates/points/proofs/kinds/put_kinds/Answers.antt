use Prim.Native.Nat.{◌+◌}
use mathlib.Core.Path.{refl, sym, ap, ◌∙◌}
use Prim.Native.Nat.{ℕ}
use native.Mathlib.Omega.{arith}
use lib.ListN.{length-replicate}
use Rattle.model.specs.Counters.{point_counters}
use Rattle.model.specs.Format.{table_of}
use Rattle.arrays.proofs.FlatLaws.{kinds-length}
use Rattle.points.proofs.ValueLaws.{places_ready, low_ready}
use Rattle.points.proofs.AllLaws.{few_here}
use Rattle.points.proofs.KindExact.{kind-parts, kind-room, all-written}
use Rattle.points.proofs.kinds.put_kinds.Goals as goal

pub overflow_add-point : goal.overflow_add-point
overflow_add-point c =
    let a = c.args in
    let g = c.requires.0 in
    omega (arith, (places_ready a.t.now g.good a.p c.requires.1 a.l g.placed).0.point_near)

pub lowest_at-low-requires : goal.lowest_at-low-requires
lowest_at-low-requires c =
    let a = c.args in
    let g = c.requires.0 in
    let r = places_ready a.t.now g.good a.p c.requires.1 a.l g.placed in
    (r.0.point_near, r.1)

pub has_auto-has-requires : goal.has_auto-has-requires
has_auto-has-requires c =
    let a = c.args in
    let g = c.requires.0 in
    let r = (places_ready a.t.now g.good a.p c.requires.1 a.l g.placed).0 in
    let own = c.requires.2 in
    (own.near, omega (arith, own.few), r.transitions_near, r.few_transitions)

pub put_value_kinds-c-requires : goal.put_value_kinds-c-requires
put_value_kinds-c-requires c =
    let a = c.args in
    let p = c.requires in
    let g = p.0 in
    let own = p.2 in
    let low = c.lowest_at-low in
    let has = c.has_auto-has in
    let room = kind-room a.t.now g.good a.p p.1 a.l g.placed a.own own.part low.result has.result _ low.ensures has.ensures refl in
    record { bins_bound = (own.near, own.near_ranges, own.few, low_ready a.t.now g.good a.p p.1 a.l g.placed low.result low.ensures); count_in_bounds = omega (arith, room, p.3) }

pub auto_total-m-requires : goal.auto_total-m-requires
auto_total-m-requires c =
    let a = c.args in
    let g = c.requires.0 in
    let r = places_ready a.t.now g.good a.p c.requires.1 a.l g.placed in
    (r.0.point_near, r.1)

pub put_same-d-requires : goal.put_same-d-requires
put_same-d-requires c =
    let a = c.args in
    let p = c.requires in
    let g = p.0 in
    let low = c.lowest_at-low in
    let has = c.has_auto-has in
    let q = c.put_value_kinds-c in
    let m = c.auto_total-m in
    let room = kind-room a.t.now g.good a.p p.1 a.l g.placed a.own p.2.part low.result has.result m.result low.ensures has.ensures m.ensures.0 in
    omega (arith, room, p.3, q.ensures.0, q.auto.kinds)

pub put_transition_kinds-requires : goal.put_transition_kinds-requires
put_transition_kinds-requires c =
    let a = c.args in
    let p = c.requires in
    let g = p.0 in
    let r = places_ready a.t.now g.good a.p p.1 a.l g.placed in
    let low = c.lowest_at-low in
    let has = c.has_auto-has in
    let q = c.put_value_kinds-c in
    let m = c.auto_total-m in
    let u = c.put_same-d in
    let room = kind-room a.t.now g.good a.p p.1 a.l g.placed a.own p.2.part low.result has.result m.result low.ensures has.ensures m.ensures.0 in
    (r.0.transitions_near, r.0.few_transitions, omega (arith, room, p.3, q.ensures.0, q.auto.kinds, u.ensures.0, u.auto.xs))

pub returns : goal.returns
returns c =
    let a = c.args in
    let p = c.requires in
    let g = p.0 in
    let low = c.lowest_at-low in
    let has = c.has_auto-has in
    let q = c.put_value_kinds-c in
    let m = c.auto_total-m in
    let u = c.put_same-d in
    let v = c.put_transition_kinds in
    let few = few_here a.t.now g.good a.p p.1 in
    let long = kinds-length (point_counters (table_of a.t.now) a.p) in
    let z = kind-parts a.t.now g.good a.p p.1 a.l g.placed a.own p.2.part low.result has.result m.result low.ensures has.ensures m.ensures.0 in
    let w = all-written a.cur q.result u.result v.result _ _ _ _ a.kinds.now q.new.kinds u.new.xs v.new.kinds z (omega (arith, few, long, p.3)) q.ensures.0 q.ensures.1
    (u.ensures.0 ∙ ap (q.result +◌) (sym (length-replicate {A = ℕ} m.result 0))) u.ensures.1 v.ensures.0 v.ensures.1 in
    (omega (arith, w.0, long), w.1)
