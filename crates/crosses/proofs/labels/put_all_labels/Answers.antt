use mathlib.Core.Path.{◌≡◌, refl, sym, ap, ◌∙◌, subst}
use mathlib.Core.List.{List, map}
use Prim.Native.Nat.{ℕ, ◌+◌}
use native.Mathlib.Omega.{arith}
use lib.ListN.{length}
use Rattle.model.specs.Counters.{Counter, cross_counters}
use Rattle.model.specs.Format.{table_of}
use Rattle.model.proofs.RawExact.{few_crosses}
use Rattle.arrays.specs.Put.{put}
use Rattle.crosses.specs.Order.{Nth}
use Rattle.crosses.specs.Labels.{shift}
use Rattle.crosses.proofs.Places.{nth-stands, count_crosses}
use Rattle.crosses.proofs.FlagsExact.{labels_exact, length_labels}
use Rattle.crosses.proofs.Walks.{from_start, from_length, from_end, map-turn, map_end}
use Rattle.crosses.proofs.labels.put_all_labels.Goals as goal

pub loop-c-init : goal.loop-c-init
loop-c-init c =
    let a = c.args in
    let e = c.requires.t_value.1 in
    let n = count_crosses a.t.now c.requires.t_value.0 a.l e in
    let z = from_start (table_of a.t.now) a.l.cross_count n in (
      omega arith,
      n,
      c.first_place-p.ensures a.t.now e,
      refl,
      ap (λ (cs : List Counter). a.cur + length cs) z,
      λ g k. ap (λ (cs : List Counter). put a.cur (map g cs) a.out.now) z,
    )

pub shift_of-d-requires : goal.shift_of-d-requires
shift_of-d-requires c = omega (arith, c.loop-c.invariant.1, c.loop-c-test.true, few_crosses c.args.t.now c.requires.t_value.0)

pub overflow_add-x : goal.overflow_add-x
overflow_add-x c = omega (arith, c.requires.t_in_bounds.1, c.shift_of-d.ensures.1)

pub overflow_add-x-in-loop-c : goal.overflow_add-x-in-loop-c
overflow_add-x-in-loop-c c = omega (arith, c.requires.t_in_bounds.2, c.shift_of-d.ensures.1)

pub overflow_add-x-in-loop-c-2 : goal.overflow_add-x-in-loop-c-2
overflow_add-x-in-loop-c-2 c = omega (arith, c.requires.t_in_bounds.3, c.shift_of-d.ensures.1)

pub put_cross_labels-at-requires : goal.put_cross_labels-at-requires
put_cross_labels-at-requires c =
    let a = c.args in
    let pre = c.requires in
    let s = a.t.now in
    let t = table_of s in
    let l = c.loop-c in
    let i = l.invariant in
    let h = c.loop-c-test.true in
    let n = a.l.cross_count in
    let stands = nth-stands s pre.t_value.0 l.c l.p (omega (arith, h, i.1)) i.2 in
    let d = c.shift_of-d.result in
    let z = length_labels s l.p stands (a.e.cover + d) (a.e.illegal + d) (a.e.product + d) in
    let same = ap (λ (x : ℕ). length (cross_counters t x)) i.2.number in
    record { stands = (stands, pre.t_value.2); bins_in_bounds = omega (arith, from_length t n l.c h, z, same, i.3, i.4, pre.t_in_bounds.0) }

pub next_place-p-requires : goal.next_place-p-requires
next_place-p-requires c =
    let a = c.args in
    let pre = c.requires in
    let s = a.t.now in
    let l = c.loop-c in
    let i = l.invariant in
    let h = c.loop-c-test.true in
    nth-stands s pre.t_value.0 l.c l.p (omega (arith, h, i.1)) i.2

pub loop-c-preserved : goal.loop-c-preserved
loop-c-preserved c =
    let a = c.args in
    let pre = c.requires in
    let s = a.t.now in
    let t = table_of s in
    let l = c.loop-c in
    let i = l.invariant in
    let h = c.loop-c-test.true in
    let n = a.l.cross_count in
    let stands = nth-stands s pre.t_value.0 l.c l.p (omega (arith, h, i.1)) i.2 in
    let d = c.shift_of-d in
    let q = c.put_cross_labels-at in
    let z = length_labels s l.p stands (a.e.cover + d.result) (a.e.illegal + d.result) (a.e.product + d.result) in
    let same = ap (λ (x : ℕ). length (cross_counters t x)) i.2.number in
    let end : q.result ≡ l.at + length (cross_counters t l.c) = omega (arith, z, same, q.ensures.0) in
    let moved : d.result ≡ shift a.each l.p.number = d.ensures.0 ∙ ap (shift a.each) (sym i.2.number) in (
      omega (arith, h),
      i.1,
      subst (λ (x : ℕ). Nth s (x + 1) c.next_place-p.result) i.2.number c.next_place-p.ensures,
      q.auto.out ∙ i.3,
      omega (arith, from_length t n l.c h, i.4, end),
      λ g y.
          map-turn t n l.c l.at q.result l.out q.new.out h (omega (arith, i.3, i.4, pre.t_in_bounds.0)) end g
          (q.ensures.1
          ∙ ap (λ (ys : List ℕ). put l.at ys l.out)
          (sym (labels_exact s l.p stands g (a.e.cover + d.result) (a.e.illegal + d.result) (a.e.product + d.result)
          (λ j. y.on_cover l.p.number j ∙ ap (a.e.cover +◌) (sym moved))
          (λ j. y.on_illegal l.p.number j ∙ ap (a.e.illegal +◌) (sym moved))
          (λ cs. y.on_product l.p.number cs ∙ ap (a.e.product +◌) (sym moved)))
          ∙ ap (λ (x : ℕ). map g (cross_counters t x)) i.2.number))
          ∙ i.5 g y,
    )

pub returns : goal.returns
returns c =
    let l = c.loop-c in
    let i = l.invariant in
    let a = c.args in
    let n = a.l.cross_count in
    let t = table_of a.t.now in
    let z = from_end t n l.c c.loop-c-test.false in
    record { value = omega (arith, i.4, ap length z); by_index = λ g y. map_end t n l.c l.at l.out g c.loop-c-test.false ∙ i.5 g y }
