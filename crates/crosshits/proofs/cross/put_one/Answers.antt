use mathlib.Core.Path.{sym, ap, ◌∙◌}
use Prim.Native.Nat.{ℕ}
use native.Mathlib.Omega.{arith}
use Rattle.model.specs.Sampling.{guard_true}
use Rattle.model.specs.Format.{guard_from}
use Rattle.arrays.proofs.Written.{unwritten}
use Rattle.products.proofs.Exact.{cross_placed}
use Rattle.crosshits.specs.Cross.{cross_hits}
use Rattle.crosshits.proofs.CrossLaws.{none_hit, none_listed, live_written, numbers_many, numbers_few}
use Rattle.crosshits.proofs.cross.put_one.Goals as goal

pub overflow_add-cp : goal.overflow_add-cp
overflow_add-cp c = omega (arith, (cross_placed c.args.t.now c.args.x.place c.requires.0.stands).near.0)

pub returns-then-not-live : goal.returns-then-not-live
returns-then-not-live c =
    let a = c.args in
    let g = c.requires.0 in
    let s = a.t.now in
    let w = a.sample.now in
    let f = a.found.now in
    let ms = a.plan.now in
    let live = c.guard_true-live in
    let e = sym (live.ensures ∙ ap (λ (b : ℕ). guard_true w (guard_from b)) c.byte.ensures) ∙ c.if-not-live.true in
    λ m. unwritten a.x.at (cross_hits s w m a.x) a.hits.now (none_hit s w f ms a.x g e m)

pub overflow_add-cp-2 : goal.overflow_add-cp-2
overflow_add-cp-2 c = omega (arith, (cross_placed c.args.t.now c.args.x.place c.requires.0.stands).near.0)

pub hit_count-n-requires : goal.hit_count-n-requires
hit_count-n-requires c =
    let a = c.args in
    let g = c.requires.0 in
    (omega (arith, (cross_placed a.t.now a.x.place g.stands).near.0), g.fits.whole.few)

pub returns-then-n-eq0 : goal.returns-then-n-eq0
returns-then-n-eq0 c =
    let a = c.args in
    let g = c.requires.0 in
    let s = a.t.now in
    let w = a.sample.now in
    let f = a.found.now in
    let ms = a.plan.now in
    let live = c.guard_true-live in
    let e = sym (live.ensures ∙ ap (λ (b : ℕ). guard_true w (guard_from b)) c.byte.ensures) ∙ c.if-not-live.false in
    let n = c.hit_count-n in
    λ m. unwritten a.x.at (cross_hits s w m a.x) a.hits.now (none_listed s w f ms a.x g e (omega (arith, n.ensures, c.if-n-eq0.true)) m)

pub put_within-requires : goal.put_within-requires
put_within-requires c =
    let p = c.requires in
    let n = c.hit_count-n in
    record { small = omega arith; given = (p.0, p.1, omega (arith, n.ensures, c.if-n-le64.true)) }

pub put_within-requires-2 : goal.put_within-requires-2
put_within-requires-2 c =
    let a = c.args in
    let g = c.requires.0 in
    let s = a.t.now in
    let w = a.sample.now in
    let f = a.found.now in
    let ms = a.plan.now in
    record { small = omega arith; given = (g, c.requires.1, omega (arith, numbers_many s w f ms a.x g, numbers_few s w f ms a.x g, g.fits.whole.small)) }

pub returns-then-n-le64 : goal.returns-then-n-le64
returns-then-n-le64 c =
    let a = c.args in
    let g = c.requires.0 in
    let s = a.t.now in
    let w = a.sample.now in
    let f = a.found.now in
    let ms = a.plan.now in
    let live = c.guard_true-live in
    let e = sym (live.ensures ∙ ap (λ (b : ℕ). guard_true w (guard_from b)) c.byte.ensures) ∙ c.if-not-live.false in
    let q = c.put_within in
    live_written s w f ms a.x g e q.result q.new.hits a.hits.now q.ensures.0 q.ensures.1

pub returns : goal.returns
returns c =
    let a = c.args in
    let g = c.requires.0 in
    let s = a.t.now in
    let w = a.sample.now in
    let f = a.found.now in
    let ms = a.plan.now in
    let live = c.guard_true-live in
    let e = sym (live.ensures ∙ ap (λ (b : ℕ). guard_true w (guard_from b)) c.byte.ensures) ∙ c.if-not-live.false in
    let q = c.put_within-2 in
    live_written s w f ms a.x g e q.result q.new.hits a.hits.now q.ensures.0 q.ensures.1
