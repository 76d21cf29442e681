use mathlib.Core.Path.{refl, sym, ap}
use mathlib.Core.List.{List}
use Prim.Native.Nat.{ℕ}
use native.Mathlib.Omega.{arith}
use lib.ListN.{length, take}
use lib.Seq.{length-take-le}
use Rattle.arrays.proofs.Written.{as_written}
use Rattle.products.proofs.Exact.{cross_placed}
use Rattle.crosshits.specs.Cross.{live_places, cross_numbers}
use Rattle.crosshits.proofs.CrossLaws.{numbers_many, numbers_few, numbers_ready, numbers_listed, numbers_below, counters_room}
use Rattle.crosshits.proofs.cross.put_listed.Goals as goal

pub overflow_add-y : goal.overflow_add-y
overflow_add-y c = omega (arith, (cross_placed c.args.t.now c.args.x.place c.requires.0.stands).near.0)

pub put_numbers-n-requires : goal.put_numbers-n-requires
put_numbers-n-requires c =
    let a = c.args in
    let g = c.requires.0 in
    let s = a.t.now in
    let w = a.sample.now in
    let f = a.found.now in
    let ms = a.plan.now in
    (numbers_ready s w f ms a.x g, omega (arith, numbers_many s w f ms a.x g, c.requires.2))

pub slice_bounds-put_live-end : goal.slice_bounds-put_live-end
slice_bounds-put_live-end c =
    let a = c.args in
    let g = c.requires.0 in
    let q = c.put_numbers-n in
    let listed = numbers_listed a.t.now a.sample.now a.found.now a.plan.now a.x g q.result a.list.now q.new.list q.ensures.0 q.ensures.1 c.requires.2 in
    listed.2

pub slice_bounds-put_live-end-2 : goal.slice_bounds-put_live-end-2
slice_bounds-put_live-end-2 c =
    let a = c.args in
    let g = c.requires.0 in
    let q = c.put_numbers-n in
    let listed = numbers_listed a.t.now a.sample.now a.found.now a.plan.now a.x g q.result a.list.now q.new.list q.ensures.0 q.ensures.1 c.requires.2 in
    sym (length-take-le q.result q.new.list listed.2)

pub put_live-requires : goal.put_live-requires
put_live-requires c =
    let a = c.args in
    let g = c.requires.0 in
    let s = a.t.now in
    let w = a.sample.now in
    let f = a.found.now in
    let ms = a.plan.now in
    let good = cross_placed s a.x.place g.stands in
    let q = c.put_numbers-n in
    let listed = numbers_listed s w f ms a.x g q.result a.list.now q.new.list q.ensures.0 q.ensures.1 c.requires.2 in
    let few = numbers_few s w f ms a.x g in
    let all = counters_room s w f ms a.x g (take q.result q.new.list) in
    (good.near.0, good.near.1, good.few, numbers_below s w f ms a.x g (take q.result q.new.list) listed.0, g.near, omega (arith, all, g.small), omega (arith, all, few, ap length listed.0, g.fits.products, c.requires.1), g.low)

pub returns : goal.returns
returns c =
    let a = c.args in
    let g = c.requires.0 in
    let s = a.t.now in
    let w = a.sample.now in
    let f = a.found.now in
    let ms = a.plan.now in
    let q = c.put_numbers-n in
    let r = c.put_live in
    let listed = numbers_listed s w f ms a.x g q.result a.list.now q.new.list q.ensures.0 q.ensures.1 c.requires.2 in
    let xs = live_places s w ms (take q.result q.new.list) a.x in
    let same = ap (λ (v : List ℕ). live_places s w ms v a.x) (sym listed.0) in
    as_written a.x.at r.result (length xs) xs (live_places s w ms (cross_numbers s f a.x) a.x) a.hits.now r.new.hits same refl r.ensures.0 r.ensures.1
