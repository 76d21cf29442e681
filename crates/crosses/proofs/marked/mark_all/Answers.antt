use mathlib.Core.Path.{refl, ap, ◌∙◌, subst}
use Prim.Native.Nat.{ℕ, ◌+◌, ◌-◌, ◌≤◌}
use native.Mathlib.Omega.{arith}
use lib.ListN.{length}
use Rattle.model.specs.Counters.{product_count}
use Rattle.model.specs.Format.{table_of}
use Rattle.products.specs.Marks.{cross_marks}
use Rattle.crosses.specs.Order.{Nth}
use Rattle.crosses.specs.Marked.{mark_total}
use Rattle.crosses.proofs.Places.{nth-stands, count_crosses}
use Rattle.crosses.proofs.MarkLaws.{Here, start_none, marked_none, marked_all, marks-room, part_room, at_next, marked_turn, marks_small}
use borrow.Rule.Slice.PartMut.{same_len_mid}
use Rattle.crosses.proofs.marked.mark_all.Goals as goal

pub loop-c-init : goal.loop-c-init
loop-c-init c =
    let a = c.args in
    let l = c.layout_of-l in
    let t = table_of a.t.now in
    (omega arith, count_crosses a.t.now c.requires.0 l.result l.ensures.value, c.first_place-p.ensures a.t.now l.ensures.value, refl, start_none t, marked_none t a.marks.now)

pub offset_bounds-marks-at : goal.offset_bounds-marks-at
offset_bounds-marks-at c =
    let a = c.args in
    let pre = c.requires in
    let s = a.t.now in
    let t = table_of s in
    let l = c.loop-c in
    let i = l.invariant in
    let h = c.loop-c-test.true in
    let fits = c.shape_of-s.ensures in
    let size = c.shape_of-s.result.total in
    let here : Here t l.c l.at size = record { inside = omega (arith, h, i.1); start = i.4; many = fits.products ∙ ap (product_count t) i.2.number } in
    omega (arith, marks_small s pre.0 l.c l.at size here)

pub slice_bounds-mark_products-count : goal.slice_bounds-mark_products-count
slice_bounds-mark_products-count c =
    let a = c.args in
    let pre = c.requires in
    let s = a.t.now in
    let t = table_of s in
    let l = c.loop-c in
    let i = l.invariant in
    let h = c.loop-c-test.true in
    let fits = c.shape_of-s.ensures in
    let size = c.shape_of-s.result.total in
    let here : Here t l.c l.at size = record { inside = omega (arith, h, i.1); start = i.4; many = fits.products ∙ ap (product_count t) i.2.number } in
    let room : mark_total t ≤ length l.marks = omega (arith, i.3, pre.4) in
    omega (arith, marks-room t l.c l.at size here l.marks room)

pub slice_bounds-mark_products-start : goal.slice_bounds-mark_products-start
slice_bounds-mark_products-start c =
    let a = c.args in
    let pre = c.requires in
    let s = a.t.now in
    let t = table_of s in
    let l = c.loop-c in
    let i = l.invariant in
    let h = c.loop-c-test.true in
    let fits = c.shape_of-s.ensures in
    let size = c.shape_of-s.result.total in
    let here : Here t l.c l.at size = record { inside = omega (arith, h, i.1); start = i.4; many = fits.products ∙ ap (product_count t) i.2.number } in
    let room : mark_total t ≤ length l.marks = omega (arith, i.3, pre.4) in
    omega (arith, marks-room t l.c l.at size here l.marks room)

pub mark_products-requires : goal.mark_products-requires
mark_products-requires c =
    let a = c.args in
    let pre = c.requires in
    let s = a.t.now in
    let t = table_of s in
    let l = c.loop-c in
    let i = l.invariant in
    let h = c.loop-c-test.true in
    let stands = nth-stands s pre.0 l.c l.p (omega (arith, h, i.1)) i.2 in
    let fits = c.shape_of-s.ensures in
    let size = c.shape_of-s.result.total in
    let here : Here t l.c l.at size = record { inside = omega (arith, h, i.1); start = i.4; many = fits.products ∙ ap (product_count t) i.2.number } in
    let room : mark_total t ≤ length l.marks = omega (arith, i.3, pre.4) in
    (record { stands = stands; fits = fits; from = pre.2; planned = pre.3 }, part_room t l.c l.at size here l.marks room)

pub overflow_add-at : goal.overflow_add-at
overflow_add-at c =
    let a = c.args in
    let pre = c.requires in
    let s = a.t.now in
    let t = table_of s in
    let l = c.loop-c in
    let i = l.invariant in
    let h = c.loop-c-test.true in
    let fits = c.shape_of-s.ensures in
    let size = c.shape_of-s.result.total in
    let here : Here t l.c l.at size = record { inside = omega (arith, h, i.1); start = i.4; many = fits.products ∙ ap (product_count t) i.2.number } in
    omega (arith, marks_small s pre.0 l.c l.at size here)

pub next_place-p-requires : goal.next_place-p-requires
next_place-p-requires c =
    let a = c.args in
    let pre = c.requires in
    let s = a.t.now in
    let l = c.loop-c in
    let i = l.invariant in
    let h = c.loop-c-test.true in
    let stands = nth-stands s pre.0 l.c l.p (omega (arith, h, i.1)) i.2 in
    stands

pub loop-c-preserved : goal.loop-c-preserved
loop-c-preserved c =
    let a = c.args in
    let pre = c.requires in
    let s = a.t.now in
    let t = table_of s in
    let l = c.loop-c in
    let i = l.invariant in
    let h = c.loop-c-test.true in
    let fits = c.shape_of-s.ensures in
    let size = c.shape_of-s.result.total in
    let here : Here t l.c l.at size = record { inside = omega (arith, h, i.1); start = i.4; many = fits.products ∙ ap (product_count t) i.2.number } in
    let room : mark_total t ≤ length l.marks = omega (arith, i.3, pre.4) in
    let q = c.mark_products in (
      omega (arith, h),
      i.1,
      subst (λ (x : ℕ). Nth s (x + 1) c.next_place-p.result) i.2.number c.next_place-p.ensures,
      same_len_mid l.at (length l.marks - l.at) l.marks q.new.marks q.auto.marks ∙ i.3,
      at_next t l.c l.at size here,
      marked_turn t l.c l.at size here l.marks room q.new.marks q.auto.marks i.5 (q.ensures ∙ ap (cross_marks t) i.2.number),
    )

pub returns : goal.returns
returns c =
    let l = c.loop-c in
    marked_all (table_of c.args.t.now) l.c l.marks (omega (arith, l.invariant.1, c.loop-c-test.false)) l.invariant.5
