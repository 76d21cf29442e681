use mathlib.Core.Path.{◌≡◌, refl, sym, ap, ◌∙◌, subst}
use mathlib.Core.List.{List}
use Prim.Native.Nat.{ℕ, ◌+◌, ◌<◌}
use native.Mathlib.Omega.{arith}
use lib.ListN.{length}
use Rattle.model.specs.Counters.{Counter, product_count, cross_counters}
use Rattle.model.specs.Sampling.{hits}
use Rattle.model.specs.Format.{table_of}
use Rattle.arrays.specs.Flat.{all_cross_counters}
use Rattle.arrays.proofs.Written.{written_start, written-turn, written_end}
use Rattle.places.specs.Places.{places_from}
use Rattle.places.proofs.PlaceLaws.{places-few}
use Rattle.products.specs.Marks.{cross_marks}
use Rattle.crosses.specs.Order.{Nth}
use Rattle.crosses.specs.Marked.{mark_start}
use Rattle.crosses.proofs.Places.{nth-stands, count_crosses}
use Rattle.crosses.proofs.Walks.{from_start, from_length}
use Rattle.crosses.proofs.MarkLaws.{Here, start_none, at_next, marks_small}
use Rattle.crosshits.proofs.AllLaws.{all_small, marks-here, places_turn, places_end, no_stretches}
use Rattle.crosshits.proofs.all.put_cross_hits.Goals as goal

pub loop-c-init : goal.loop-c-init
loop-c-init c =
    let a = c.args in
    let s = a.t.now in
    let l = c.layout_of-l in
    let n = count_crosses s c.requires.t_value.0 l.result l.ensures.value in
    let z = from_start (table_of s) l.result.cross_count n in
    (omega arith, n, c.first_place-p.ensures s l.ensures.value, refl, ap (16 +◌) (start_none (table_of s)), ap (λ (cs : List Counter). a.base + length cs) z, omega arith, λ m. written_start 0 (places_from (hits (table_of s) a.sample.now m) a.base (all_cross_counters (table_of s))) _ a.hits.now (ap (places_from (hits (table_of s) a.sample.now m) a.base) z))

pub put_one-at-requires : goal.put_one-at-requires
put_one-at-requires c =
    let a = c.args in
    let pre = c.requires in
    let s = a.t.now in
    let l = c.loop-c in
    let i = l.invariant in
    let h = c.loop-c-test.true in
    let in_table : l.c < length (table_of s).crosses = omega (arith, h, i.1) in
    let stands = nth-stands s pre.t_value.0 l.c l.p in_table i.2 in
    let fits = c.shape_of-s.ensures in
    let size = c.shape_of-s.result.total in
    let here : Here (table_of s) l.c (mark_start (table_of s) l.c) size = record { inside = in_table; start = refl; many = fits.products ∙ ap (product_count (table_of s)) i.2.number } in
    let small = marks_small s pre.t_value.0 l.c (mark_start (table_of s) l.c) size here in
    let n = c.layout_of-l.result.cross_count in
    let many = from_length (table_of s) n l.c h in
    let same = ap (λ (x : ℕ). length (cross_counters (table_of s) x)) i.2.number in
    let all = all_small s pre.t_value.0 in (
      record {
        stands = stands;
        fits = fits;
        found = pre.t_value.1;
        marks = marks-here (table_of s) a.plan.now pre.t_value.3 l.c l.start size in_table i.4 here.many ∙ ap (cross_marks (table_of s)) (sym i.2.number);
        near = omega (arith, small, i.4);
        low = omega (arith, i.6);
        small = omega (arith, all, i.5, many, same, pre.base_value.0);
      },
      omega (arith, i.6, i.5, many, same, i.3, pre.base_value.1),
    )

pub counters_of-first-requires : goal.counters_of-first-requires
counters_of-first-requires c =
    let a = c.args in
    let pre = c.requires in
    let s = a.t.now in
    let l = c.loop-c in
    let i = l.invariant in
    let h = c.loop-c-test.true in
    let in_table : l.c < length (table_of s).crosses = omega (arith, h, i.1) in
    let stands = nth-stands s pre.t_value.0 l.c l.p in_table i.2 in
    let fits = c.shape_of-s.ensures in
    let size = c.shape_of-s.result.total in
    let here : Here (table_of s) l.c (mark_start (table_of s) l.c) size = record { inside = in_table; start = refl; many = fits.products ∙ ap (product_count (table_of s)) i.2.number } in
    let small = marks_small s pre.t_value.0 l.c (mark_start (table_of s) l.c) size here in
    let n = c.layout_of-l.result.cross_count in
    let many = from_length (table_of s) n l.c h in
    let same = ap (λ (x : ℕ). length (cross_counters (table_of s) x)) i.2.number in
    let all = all_small s pre.t_value.0 in
    (stands, fits)

pub overflow_add-first : goal.overflow_add-first
overflow_add-first c =
    let a = c.args in
    let pre = c.requires in
    let s = a.t.now in
    let l = c.loop-c in
    let i = l.invariant in
    let h = c.loop-c-test.true in
    let in_table : l.c < length (table_of s).crosses = omega (arith, h, i.1) in
    let stands = nth-stands s pre.t_value.0 l.c l.p in_table i.2 in
    let fits = c.shape_of-s.ensures in
    let size = c.shape_of-s.result.total in
    let here : Here (table_of s) l.c (mark_start (table_of s) l.c) size = record { inside = in_table; start = refl; many = fits.products ∙ ap (product_count (table_of s)) i.2.number } in
    let small = marks_small s pre.t_value.0 l.c (mark_start (table_of s) l.c) size here in
    let n = c.layout_of-l.result.cross_count in
    let many = from_length (table_of s) n l.c h in
    let same = ap (λ (x : ℕ). length (cross_counters (table_of s) x)) i.2.number in
    let all = all_small s pre.t_value.0 in
    omega (arith, all, i.5, many, same, pre.base_value.0, c.counters_of-first.ensures)

pub overflow_add-start : goal.overflow_add-start
overflow_add-start c =
    let a = c.args in
    let pre = c.requires in
    let s = a.t.now in
    let l = c.loop-c in
    let i = l.invariant in
    let h = c.loop-c-test.true in
    let in_table : l.c < length (table_of s).crosses = omega (arith, h, i.1) in
    let stands = nth-stands s pre.t_value.0 l.c l.p in_table i.2 in
    let fits = c.shape_of-s.ensures in
    let size = c.shape_of-s.result.total in
    let here : Here (table_of s) l.c (mark_start (table_of s) l.c) size = record { inside = in_table; start = refl; many = fits.products ∙ ap (product_count (table_of s)) i.2.number } in
    let small = marks_small s pre.t_value.0 l.c (mark_start (table_of s) l.c) size here in
    let n = c.layout_of-l.result.cross_count in
    let many = from_length (table_of s) n l.c h in
    let same = ap (λ (x : ℕ). length (cross_counters (table_of s) x)) i.2.number in
    let all = all_small s pre.t_value.0 in
    omega (arith, small, i.4)

pub next_place-p-requires : goal.next_place-p-requires
next_place-p-requires c =
    let a = c.args in
    let pre = c.requires in
    let s = a.t.now in
    let l = c.loop-c in
    let i = l.invariant in
    let h = c.loop-c-test.true in
    let in_table : l.c < length (table_of s).crosses = omega (arith, h, i.1) in
    let stands = nth-stands s pre.t_value.0 l.c l.p in_table i.2 in
    stands

pub loop-c-preserved : goal.loop-c-preserved
loop-c-preserved c =
    let a = c.args in
    let pre = c.requires in
    let s = a.t.now in
    let l = c.loop-c in
    let i = l.invariant in
    let h = c.loop-c-test.true in
    let in_table : l.c < length (table_of s).crosses = omega (arith, h, i.1) in
    let stands = nth-stands s pre.t_value.0 l.c l.p in_table i.2 in
    let fits = c.shape_of-s.ensures in
    let size = c.shape_of-s.result.total in
    let here : Here (table_of s) l.c (mark_start (table_of s) l.c) size = record { inside = in_table; start = refl; many = fits.products ∙ ap (product_count (table_of s)) i.2.number } in
    let small = marks_small s pre.t_value.0 l.c (mark_start (table_of s) l.c) size here in
    let n = c.layout_of-l.result.cross_count in
    let many = from_length (table_of s) n l.c h in
    let same = ap (λ (x : ℕ). length (cross_counters (table_of s) x)) i.2.number in
    let all = all_small s pre.t_value.0 in
    let q = c.put_one-at in
    let k = c.counters_of-first in
    let t = table_of s in
    let w = a.sample.now in
    let next : l.first + k.result ≡ l.first + length (cross_counters t l.p.number) = ap (l.first +◌) k.ensures in (
      omega (arith, h),
      i.1,
      subst (λ (x : ℕ). Nth s (x + 1) c.next_place-p.result) i.2.number c.next_place-p.ensures,
      q.auto.hits ∙ i.3,
      omega (arith, i.4, at_next t l.c (mark_start t l.c) size here),
      omega (arith, i.5, many, same, k.ensures),
      omega (arith, i.6, k.ensures, (q.ensures no_stretches).0, places-few (hits t w no_stretches) l.first (cross_counters t l.p.number)),
      λ m.
          let g = hits t w m in
          written-turn 0 (places_from g a.base (all_cross_counters t)) a.hits.now l.at l.hits _ (i.7 m) (omega (arith, places-few g a.base (all_cross_counters t), pre.base_value.1)) (places_from g l.first (cross_counters t l.p.number)) _
          (places_turn t n l.c l.p.number l.first (l.first + k.result) g h i.2.number next) q.result q.new.hits (q.ensures m).0 (q.ensures m).1,
    )

pub returns : goal.returns
returns c =
    let a = c.args in
    let l = c.loop-c in
    let t = table_of a.t.now in
    let n = c.layout_of-l.result.cross_count in
    λ m.
    let g = hits t a.sample.now m in
    let e = written_end 0 (places_from g a.base (all_cross_counters t)) a.hits.now l.at l.hits _ (l.invariant.7 m) (places_end t n l.c l.first g c.loop-c-test.false) in
    (omega (arith, e.0), e.1)
