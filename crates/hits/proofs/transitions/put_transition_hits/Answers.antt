use mathlib.Core.Path.{ap, ap₂, sym, ◌∙◌}
use mathlib.Core.List.{List}
use Prim.Native.Nat.{ℕ, ◌-◌, ◌^◌, ◌<◌}
use native.Mathlib.Omega.{arith}
use lib.ListN.{length, get_or, take, length-take}
use lib.Seq.{length-take-le}
use Rattle.arrays.specs.Put.{put}
use Rattle.places.specs.Places.{is_set, places_from}
use Rattle.places.proofs.PlaceLaws.{set_few}
use Rattle.points.proofs.ValueLaws.{places_ready}
use Rattle.points.proofs.TransitionExact.{transition_count}
use Rattle.points.proofs.AllLaws.{few_bins}
use Rattle.hits.proofs.Ready.{flags_few, base_is, places_small, transitions_hit}
use Rattle.hits.proofs.transitions.put_transition_hits.Goals as goal

pub put_transitions-n-requires : goal.put_transitions-n-requires
put_transitions-n-requires c =
    let a = c.args in
    let p = c.requires in
    let g = p.0 in
    let words : (j : ℕ) → get_or a.lens.now j 0 < 2 ^ 32 = λ j. (c.type_inv.lens j).fits in
    let near = (places_ready a.t.now g.good a.own.point p.1 a.l g.placed).0 in
    let n = transition_count a.t.now a.sample.now a.lens.now g.good words a.own.point a.l g.placed in
    let k = few_bins a.t.now a.sample.now a.lens.now g.good g.widths words a.own.point p.1 in
    (near.transitions_near, omega (arith, n, k), omega (arith, n, k, p.3), omega (arith, flags_few a.t.now a.sample.now a.lens.now g.good g.widths words a.own.point p.1 a.l g.placed a.own.reading p.2))

pub overflow_sub-end : goal.overflow_sub-end
overflow_sub-end c =
    let a = c.args in
    let p = c.requires in
    let g = p.0 in
    let words : (j : ℕ) → get_or a.lens.now j 0 < 2 ^ 32 = λ j. (c.type_inv.lens j).fits in
    let q = c.put_transitions-n in
    (base_is a.t.now a.sample.now a.lens.now g.good g.widths words a.own.point p.1 a.l g.placed a.own.reading p.2 a.end q.result p.5 q.ensures.0).0

pub slice_bounds-flags-end : goal.slice_bounds-flags-end
slice_bounds-flags-end c =
    let a = c.args in
    let p = c.requires in
    let g = p.0 in
    let words : (j : ℕ) → get_or a.lens.now j 0 < 2 ^ 32 = λ j. (c.type_inv.lens j).fits in
    let q = c.put_transitions-n in
    omega (arith, flags_few a.t.now a.sample.now a.lens.now g.good g.widths words a.own.point p.1 a.l g.placed a.own.reading p.2, q.ensures.0, q.auto.flags)

pub slice_bounds-put_set-end : goal.slice_bounds-put_set-end
slice_bounds-put_set-end c =
    let a = c.args in
    let p = c.requires in
    let g = p.0 in
    let words : (j : ℕ) → get_or a.lens.now j 0 < 2 ^ 32 = λ j. (c.type_inv.lens j).fits in
    let q = c.put_transitions-n in
    sym (length-take-le q.result q.new.flags (omega (arith, flags_few a.t.now a.sample.now a.lens.now g.good g.widths words a.own.point p.1 a.l g.placed a.own.reading p.2, q.ensures.0, q.auto.flags)))

pub put_set-requires : goal.put_set-requires
put_set-requires c =
    let a = c.args in
    let p = c.requires in
    let g = p.0 in
    let words : (j : ℕ) → get_or a.lens.now j 0 < 2 ^ 32 = λ j. (c.type_inv.lens j).fits in
    let q = c.put_transitions-n in
    let few = flags_few a.t.now a.sample.now a.lens.now g.good g.widths words a.own.point p.1 a.l g.placed a.own.reading p.2 in
    let base = base_is a.t.now a.sample.now a.lens.now g.good g.widths words a.own.point p.1 a.l g.placed a.own.reading p.2 a.end q.result p.5 q.ensures.0 in
    record { room = omega (arith, set_few is_set (a.end - q.result) q.result q.new.flags, few, q.ensures.0, p.4); small = omega (arith, places_small a.t.now a.sample.now a.lens.now g.good g.widths words a.own.point p.1 a.l g.placed a.own.reading p.2, q.ensures.0, base.1, length-take q.result q.new.flags) }

pub returns : goal.returns
returns c =
    let a = c.args in
    let p = c.requires in
    let g = p.0 in
    let words : (j : ℕ) → get_or a.lens.now j 0 < 2 ^ 32 = λ j. (c.type_inv.lens j).fits in
    let q = c.put_transitions-n in
    let r = c.put_set in
    let base = base_is a.t.now a.sample.now a.lens.now g.good g.widths words a.own.point p.1 a.l g.placed a.own.reading p.2 a.end q.result p.5 q.ensures.0 in
    let z = ap₂ (λ (b : ℕ) (x : List ℕ). places_from is_set b (take q.result x)) base.1 q.ensures.1 ∙ transitions_hit a.t.now a.sample.now a.lens.now g.good g.widths words a.own.point p.1 a.l g.placed a.own.reading p.2 q.result _ q.ensures.0 (omega arith) in
    (r.ensures.count ∙ ap length z, r.ensures.places ∙ ap (λ (x : List ℕ). put 0 x a.hits.now) z)
