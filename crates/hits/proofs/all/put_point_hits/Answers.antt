use mathlib.Core.Path.{◌≡◌, refl, sym, subst, ◌∙◌}
use mathlib.Core.Bool.{false}
use Rattle.std.specs.Prelude.{Option, IfSome, IfNone}
use Rattle.layout.specs.declared.Layout.{Layout}
use Rattle.layout.specs.Places.{layout_of}
use Rattle.hits.specs.Places.{any_length}
use Rattle.hits.proofs.Unmatched.{no_transitions, unmatched-turn}
use Prim.Native.Nat.{◌+◌, ◌*◌, ◌<◌}
use native.Mathlib.Omega.{arith}
use lib.ListN.{length, take}
use Rattle.model.specs.Format.{table_of}
use Rattle.model.specs.Register.{point_total}
use Rattle.arrays.proofs.Written.{written_start, written_end}
use Rattle.model.proofs.RawExact.{few_points}
use Rattle.layout.proofs.PlaceLaws.{points-total}
use Rattle.points.proofs.AllLaws.{code_read}
use Rattle.hits.proofs.RowLaws.{tail-length}
use Rattle.hits.proofs.AllPlaces.{end-at, all-few, after-start, after-end, room-left, values-turn, values-room, transitions-turn}
use Rattle.hits.proofs.all.put_point_hits.Goals as goal
use Rattle.hits.proofs.all.put_point_hits.Goals.{in-Some, in_default}

pub loop-p-init : goal.loop-p-init
loop-p-init c =
    let a = c.args in
    let p = c.requires in
    let g = c.point_count-n in
    let n = points-total a.t.now p.t_value.0 g.result g.ensures.value in
    (n, omega (arith, n, few_points a.t.now p.t_value.0), omega arith, written_start 0 _ _ a.hits.now (after-start (table_of a.t.now) a.sample.now (take (length (table_of a.t.now).transition_bins) a.lens.now) _ n), refl)

pub put_values-at-requires : goal.put_values-at-requires
put_values-at-requires c =
    let a = c.args in
    let p = c.requires in
    let l = c.loop-p in
    let h : l.p < point_total (table_of a.t.now) = omega (arith, l.invariant.0) in record { t_value = (p.t_value.0, p.t_value.1.widths, h, code_read (table_of a.t.now) a.sample.now a.readings.now l.p p.t_value.1.codes h, room-left (table_of a.t.now) a.sample.now (take (length (table_of a.t.now).transition_bins) a.lens.now) a.hits.now p.t_value.4 l.at l.hits _ l.invariant.3); found = (p.found.0, p.found.1, p.found.2, omega (arith, p.found.4)) }

pub bounds-rows-n : goal.bounds-rows-n
bounds-rows-n c = omega (arith, c.loop-p.invariant, c.loop-p-test, c.requires.found.4)

pub overflow_cast-end : goal.overflow_cast-end
overflow_cast-end c = omega (arith, (c.type_inv.rows (258 * c.point_count-n.result + c.loop-p.p + 1)).fits)

pub offset_bounds-hits-at : goal.offset_bounds-hits-at
offset_bounds-hits-at c =
    let a = c.args in
    let p = c.requires in
    let g = c.point_count-n in
    let l = c.loop-p in
    let v = c.put_values-at in
    let h : l.p < g.result = omega (arith, c.loop-p-test) in
    let half = values-turn (table_of a.t.now) a.sample.now (take (length (table_of a.t.now).transition_bins) a.lens.now) a.hits.now p.t_value.4 g.result l.p l.at l.hits l.invariant.3 h v.result v.new.hits v.ensures.0 v.ensures.1 in
    omega (arith, all-few a.t.now a.sample.now (take (length (table_of a.t.now).transition_bins) a.lens.now) p.t_value.0, half.place)

pub slice_bounds-put_transition_hits-count : goal.slice_bounds-put_transition_hits-count
slice_bounds-put_transition_hits-count c =
    let a = c.args in
    let p = c.requires in
    let g = c.point_count-n in
    let l = c.loop-p in
    let v = c.put_values-at in
    let h : l.p < g.result = omega (arith, c.loop-p-test) in
    let room = values-room (table_of a.t.now) a.sample.now (take (length (table_of a.t.now).transition_bins) a.lens.now) a.hits.now p.t_value.4 g.result l.p l.at l.hits l.invariant.3 h v.result v.new.hits v.ensures.0 v.ensures.1 in
    omega (arith, room)

pub slice_bounds-put_transition_hits-start : goal.slice_bounds-put_transition_hits-start
slice_bounds-put_transition_hits-start c =
    let a = c.args in
    let p = c.requires in
    let g = c.point_count-n in
    let l = c.loop-p in
    let v = c.put_values-at in
    let h : l.p < g.result = omega (arith, c.loop-p-test) in
    let room = values-room (table_of a.t.now) a.sample.now (take (length (table_of a.t.now).transition_bins) a.lens.now) a.hits.now p.t_value.4 g.result l.p l.at l.hits l.invariant.3 h v.result v.new.hits v.ensures.0 v.ensures.1 in
    omega (arith, room)

pub slice_bounds-put_transition_hits-end : goal.slice_bounds-put_transition_hits-end
slice_bounds-put_transition_hits-end c =
    let a = c.args in
    let p = c.requires in
    let g = c.point_count-n in
    let l = c.loop-p in
    let v = c.put_values-at in
    let h : l.p < g.result = omega (arith, c.loop-p-test) in
    let room = values-room (table_of a.t.now) a.sample.now (take (length (table_of a.t.now).transition_bins) a.lens.now) a.hits.now p.t_value.4 g.result l.p l.at l.hits l.invariant.3 h v.result v.new.hits v.ensures.0 v.ensures.1 in
    omega (arith, room)

pub put_transition_hits-at-requires : goal.put_transition_hits-at-requires
put_transition_hits-at-requires c =
    let a = c.args in
    let p = c.requires in
    let g = c.point_count-n in
    let l = c.loop-p in
    let v = c.put_values-at in
    let h : l.p < g.result = omega (arith, c.loop-p-test) in
    let room = values-room (table_of a.t.now) a.sample.now (take (length (table_of a.t.now).transition_bins) a.lens.now) a.hits.now p.t_value.4 g.result l.p l.at l.hits l.invariant.3 h v.result v.new.hits v.ensures.0 v.ensures.1 in
    let o : l.p < point_total (table_of a.t.now) = omega (arith, l.invariant.0) in
    let e = sym l.invariant.4 ∙ c.in-Some.is in
    let placed = subst (λ (r : Option Layout). IfSome r (λ x. x ≡ layout_of a.t.now)) e c.matched_layout-matched.ensures.some in
    (record { good = p.t_value.0; placed = placed; widths = p.t_value.1.widths }, o, code_read (table_of a.t.now) a.sample.now a.readings.now l.p p.t_value.1.codes o, p.t_value.3, omega (arith, tail-length v.result v.new.hits, room), end-at (table_of a.t.now) a.rows.now _ l.p l.invariant.0 p.found.3 o)

pub overflow_add-at : goal.overflow_add-at
overflow_add-at c =
    let a = c.args in
    let p = c.requires in
    let g = c.point_count-n in
    let l = c.loop-p in
    let v = c.put_values-at in
    let h : l.p < g.result = omega (arith, c.loop-p-test) in
    let x = c.put_transition_hits-at in
    let turn = transitions-turn (table_of a.t.now) a.sample.now (take (length (table_of a.t.now).transition_bins) a.lens.now) a.hits.now p.t_value.4 g.result l.p l.at l.hits l.invariant.3 h v.result v.new.hits v.ensures.0 v.ensures.1 x.result x.new.hits x.ensures.0 x.auto.hits x.ensures.1 in
    omega (arith, all-few a.t.now a.sample.now (take (length (table_of a.t.now).transition_bins) a.lens.now) p.t_value.0, turn.place)

pub loop-p-preserved : goal.loop-p-preserved
loop-p-preserved c =
    let a = c.args in
    let p = c.requires in
    let g = c.point_count-n in
    let l = c.loop-p in
    let v = c.put_values-at in
    let t = table_of a.t.now in
    let lens = take (length t.transition_bins) a.lens.now in
    let h : l.p < g.result = omega (arith, c.loop-p-test) in
    elim c.match-matched.branch [
      | in-Some w ↦
          let x = w.put_transition_hits-at in
          let turn = transitions-turn t a.sample.now lens a.hits.now p.t_value.4 g.result l.p l.at l.hits l.invariant.3 h v.result v.new.hits v.ensures.0 v.ensures.1 x.result x.new.hits x.ensures.0 x.auto.hits x.ensures.1 in
          (l.invariant.0, l.invariant.1, omega arith, rw (w.at-is, w.hits-is) turn, w.matched-is ∙ sym w.in-Some.is ∙ l.invariant.4)
      | in_default w ↦
          let e = sym l.invariant.4 ∙ w.in_default.is in
          let none = subst (λ (r : Option Layout). IfNone r (any_length a.lens.now ≡ false)) e c.matched_layout-matched.ensures.none in
          let turn = unmatched-turn t a.sample.now lens a.hits.now p.t_value.4 g.result l.p l.at l.hits l.invariant.3 h (no_transitions t a.sample.now l.p (length t.transition_bins) a.lens.now none) v.result v.new.hits v.ensures.0 v.ensures.1 in
          (l.invariant.0, l.invariant.1, omega arith, rw (w.at-is, w.hits-is) turn, w.matched-is ∙ l.invariant.4)
    ]

pub returns : goal.returns
returns c =
    let a = c.args in
    let l = c.loop-p in
    let z = written_end 0 _ a.hits.now l.at l.hits _ l.invariant.3 (after-end (table_of a.t.now) a.sample.now (take (length (table_of a.t.now).transition_bins) a.lens.now) _ l.p (omega arith)) in
    (omega (arith, z.0), z.1)
