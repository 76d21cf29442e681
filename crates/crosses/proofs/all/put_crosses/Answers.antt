use mathlib.Core.Path.{◌≡◌, refl, sym, ap, ap₂, ◌∙◌, subst}
use mathlib.Core.Bool.{Bool, false}
use mathlib.Core.List.{List, []}
use Prim.Native.Nat.{ℕ, ◌+◌, ◌-◌, ◌≤◌}
use native.Mathlib.Omega.{arith}
use lib.ListN.{length, take, drop, length-replicate}
use lib.Seq.{length-take-le}
use Rattle.model.specs.Counters.{Counter, product_count, cross_counters}
use Rattle.model.specs.Sampling.{Stretches}
use Rattle.model.specs.Format.{table_of}
use Rattle.arrays.specs.Put.{put}
use Rattle.arrays.specs.Flat.{Tells, all_cross_counters}
use Rattle.products.specs.Marks.{cross_marks}
use Rattle.products.proofs.Exact.{cross_placed}
use Rattle.crosses.specs.Order.{Nth}
use Rattle.crosses.specs.Flags.{gate_of, flags_of, cross_flags}
use Rattle.crosses.proofs.Places.{nth-stands, count_crosses}
use Rattle.crosses.proofs.FlagsExact.{length_flags, flags_exact}
use Rattle.crosses.proofs.Walks.{from_start, from_length, from_end, flags_turn, flags_end}
use Rattle.crosses.proofs.MarkLaws.{Here, start_none, marks-room, part_room, at_next, marks-at, marks_small}
use Rattle.crosses.proofs.all.put_crosses.Goals as goal

-- the total does not look at it
any_stretches : Stretches
any_stretches = record { lengths = λ p. []; matched = λ b l. false }

pub loop-c-init : goal.loop-c-init
loop-c-init c =
    let a = c.args in
    let l = c.layout_of-l in
    let t = table_of a.t.now in
    let n = count_crosses a.t.now c.requires.t_value.0 l.result l.ensures.value in
    let z = from_start t l.result.cross_count n in (
      omega arith,
      n,
      c.first_place-p.ensures a.t.now l.ensures.value,
      refl,
      length-replicate {A = ℕ} 2048 0,
      start_none t,
      ap (λ (cs : List Counter). a.ask.at + length cs) z,
      λ m k. ap (λ (cs : List Counter). put a.ask.at (flags_of a.ask.total t a.sample.now m cs) a.flags.now) z,
    )

pub put_hits-requires : goal.put_hits-requires
put_hits-requires c =
    let a = c.args in
    let pre = c.requires in
    let s = a.t.now in
    let l = c.loop-c in
    let i = l.invariant in
    let h = c.loop-c-test.true in
    let stands = nth-stands s pre.t_value.0 l.c l.p (omega (arith, h, i.1)) i.2 in
    let fits = c.shape_of-s.ensures in
    (stands, fits, omega (arith, i.4, fits.whole.small))

pub offset_bounds-marks-base : goal.offset_bounds-marks-base
offset_bounds-marks-base c =
    let a = c.args in
    let pre = c.requires in
    let s = a.t.now in
    let t = table_of s in
    let l = c.loop-c in
    let i = l.invariant in
    let h = c.loop-c-test.true in
    let fits = c.shape_of-s.ensures in
    let size = c.shape_of-s.result.total in
    let here : Here t l.c l.base size = record { inside = omega (arith, h, i.1); start = i.5; many = fits.products ∙ ap (product_count t) i.2.number } in
    omega (arith, marks_small s pre.t_value.0 l.c l.base size here)

pub slice_bounds-put_cross-count : goal.slice_bounds-put_cross-count
slice_bounds-put_cross-count c =
    let a = c.args in
    let pre = c.requires in
    let s = a.t.now in
    let t = table_of s in
    let l = c.loop-c in
    let i = l.invariant in
    let h = c.loop-c-test.true in
    let fits = c.shape_of-s.ensures in
    let size = c.shape_of-s.result.total in
    let here : Here t l.c l.base size = record { inside = omega (arith, h, i.1); start = i.5; many = fits.products ∙ ap (product_count t) i.2.number } in
    omega (arith, marks-room t l.c l.base size here a.marks.now pre.t_in_bounds.0)

pub slice_bounds-put_cross-start : goal.slice_bounds-put_cross-start
slice_bounds-put_cross-start c =
    let a = c.args in
    let pre = c.requires in
    let s = a.t.now in
    let t = table_of s in
    let l = c.loop-c in
    let i = l.invariant in
    let h = c.loop-c-test.true in
    let fits = c.shape_of-s.ensures in
    let size = c.shape_of-s.result.total in
    let here : Here t l.c l.base size = record { inside = omega (arith, h, i.1); start = i.5; many = fits.products ∙ ap (product_count t) i.2.number } in
    omega (arith, marks-room t l.c l.base size here a.marks.now pre.t_in_bounds.0)

pub put_cross-at-requires : goal.put_cross-at-requires
put_cross-at-requires c =
    let a = c.args in
    let pre = c.requires in
    let s = a.t.now in
    let t = table_of s in
    let l = c.loop-c in
    let i = l.invariant in
    let h = c.loop-c-test.true in
    let n = c.layout_of-l.result.cross_count in
    let stands = nth-stands s pre.t_value.0 l.c l.p (omega (arith, h, i.1)) i.2 in
    let fits = c.shape_of-s.ensures in
    let size = c.shape_of-s.result.total in
    let here : Here t l.c l.base size = record { inside = omega (arith, h, i.1); start = i.5; many = fits.products ∙ ap (product_count t) i.2.number } in
    let hits = c.put_hits in
    let marks = take (length a.marks.now - l.base) (drop l.base a.marks.now) in
    let hits-fit : size ≤ length hits.new.stack = omega (arith, fits.whole.small, hits.auto.stack, i.4) in
    let marks-fit : size ≤ length marks = part_room t l.c l.base size here a.marks.now pre.t_in_bounds.0 in
    let long = length_flags s l.p stands a.sample.now a.ask.total (take size hits.new.stack) (take size marks) (length-take-le size hits.new.stack hits-fit ∙ fits.products) (length-take-le size marks marks-fit ∙ fits.products) in
    let same = ap (λ (x : ℕ). length (cross_counters t x)) i.2.number in
    let good = cross_placed s l.p stands in
    record { cross_bound = (omega (arith, good.near.0), omega (arith, good.near.1), good.few); products_in_bounds = (hits-fit, marks-fit, omega (arith, long, same, from_length t n l.c h, i.3, i.6, pre.t_in_bounds.1)) }

pub overflow_add-base : goal.overflow_add-base
overflow_add-base c =
    let a = c.args in
    let pre = c.requires in
    let s = a.t.now in
    let t = table_of s in
    let l = c.loop-c in
    let i = l.invariant in
    let h = c.loop-c-test.true in
    let fits = c.shape_of-s.ensures in
    let size = c.shape_of-s.result.total in
    let here : Here t l.c l.base size = record { inside = omega (arith, h, i.1); start = i.5; many = fits.products ∙ ap (product_count t) i.2.number } in
    omega (arith, marks_small s pre.t_value.0 l.c l.base size here)

pub next_place-p-requires : goal.next_place-p-requires
next_place-p-requires c =
    let a = c.args in
    let pre = c.requires in
    let s = a.t.now in
    let l = c.loop-c in
    let i = l.invariant in
    let h = c.loop-c-test.true in
    let stands = nth-stands s pre.t_value.0 l.c l.p (omega (arith, h, i.1)) i.2 in
    stands

pub loop-c-preserved : goal.loop-c-preserved
loop-c-preserved c =
    let a = c.args in
    let pre = c.requires in
    let s = a.t.now in
    let t = table_of s in
    let l = c.loop-c in
    let i = l.invariant in
    let h = c.loop-c-test.true in
    let n = c.layout_of-l.result.cross_count in
    let stands = nth-stands s pre.t_value.0 l.c l.p (omega (arith, h, i.1)) i.2 in
    let fits = c.shape_of-s.ensures in
    let size = c.shape_of-s.result.total in
    let here : Here t l.c l.base size = record { inside = omega (arith, h, i.1); start = i.5; many = fits.products ∙ ap (product_count t) i.2.number } in
    let hits = c.put_hits in
    let marks = take (length a.marks.now - l.base) (drop l.base a.marks.now) in
    let hits-fit : size ≤ length hits.new.stack = omega (arith, fits.whole.small, hits.auto.stack, i.4) in
    let marks-fit : size ≤ length marks = part_room t l.c l.base size here a.marks.now pre.t_in_bounds.0 in
    let long = length_flags s l.p stands a.sample.now a.ask.total (take size hits.new.stack) (take size marks) (length-take-le size hits.new.stack hits-fit ∙ fits.products) (length-take-le size marks marks-fit ∙ fits.products) in
    let same = ap (λ (x : ℕ). length (cross_counters t x)) i.2.number in
    let q = c.put_cross-at in
    let w = a.sample.now in
    let total = a.ask.total in
    let end : q.result ≡ l.at + length (cross_counters t l.c) = omega (arith, long, same, q.ensures.0) in (
      omega (arith, h),
      i.1,
      subst (λ (x : ℕ). Nth s (x + 1) c.next_place-p.result) i.2.number c.next_place-p.ensures,
      q.auto.flags ∙ i.3,
      hits.auto.stack ∙ i.4,
      at_next t l.c l.base size here,
      omega (arith, from_length t n l.c h, i.6, end),
      λ m x.
          flags_turn t n l.c l.at q.result l.flags q.new.flags h (omega (arith, i.3, i.6, pre.t_in_bounds.1)) end total w m
          (q.ensures.1
          ∙ ap (λ (ys : List ℕ). put l.at ys l.flags)
          (ap₂ (cross_flags s w total l.p.cross l.p.bins) (hits.ensures (gate_of total t w) x) (marks-at t l.c l.base size here a.marks.now pre.t_in_bounds.0 pre.t_value.2 ∙ ap (cross_marks t) (sym i.2.number))
          ∙ sym (flags_exact s l.p stands w total m) ∙ ap (λ (y : ℕ). flags_of total t w m (cross_counters t y)) i.2.number))
          ∙ i.7 m x,
    )

pub returns : goal.returns
returns c =
    let a = c.args in
    let l = c.loop-c in
    let i = l.invariant in
    let n = c.layout_of-l.result.cross_count in
    let t = table_of a.t.now in
    let w = a.sample.now in
    let total = a.ask.total in
    let z = from_end t n l.c c.loop-c-test.false in
    let tell : Bool → Type 0 = λ b. Tells (gate_of b t w) t a.gate.now in
    let flag : Stretches → Bool → List ℕ = λ m b. put a.ask.at (flags_of b t w m (all_cross_counters t)) a.flags.now in
    let all : (m : Stretches) → tell total → l.flags ≡ flag m total = λ m x. flags_end t n l.c l.at l.flags total w m c.loop-c-test.false ∙ i.7 m x in
    record { value = omega (arith, i.6, ap length z); raised = λ e x m. all m (subst tell (sym e) x) ∙ ap (flag m) e; counted = λ e x. all any_stretches (subst tell (sym e) x) ∙ ap (flag any_stretches) e }
