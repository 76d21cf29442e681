use mathlib.Core.Path.{sym, ap, subst, ◌∙◌}
use mathlib.Core.List.{List}
use Prim.Native.Nat.{ℕ}
use native.Mathlib.Omega.{arith}
use lib.ListN.{length, take}
use Rattle.model.specs.Lists.{all}
use Rattle.ranges.specs.Taken.{excluded_at}
use Rattle.spans.specs.Spans.{sound, Settled}
use Rattle.spans.proofs.CollectLaws.{collected, length-words, words-sound}
use Rattle.spans.proofs.collects.spans_of.Goals as goal

pub slice_bounds-settle-end-2 : goal.slice_bounds-settle-end-2
slice_bounds-settle-end-2 c =
    let a = c.args in
    let d = c.collect-n in
    let rs = excluded_at a.t.now a.place.bins a.place.ranges a.place.count a.p in
    let e = collected a.low rs a.room.now d.new.out d.result d.ensures.0 d.ensures.1 c.requires.1.fits in
    d.ensures.0 ∙ sym (ap length e ∙ length-words a.low rs)

pub settle-requires : goal.settle-requires
settle-requires c =
    let a = c.args in
    let d = c.collect-n in
    let rs = excluded_at a.t.now a.place.bins a.place.ranges a.place.count a.p in
    let e = collected a.low rs a.room.now d.new.out d.result d.ensures.0 d.ensures.1 c.requires.1.fits in
    (omega (arith, ap length e, length-words a.low rs, c.requires.0, c.requires.1.fits), ap (all sound) e ∙ words-sound a.low rs c.requires.1.spans)

pub returns : goal.returns
returns c =
    let a = c.args in
    let d = c.collect-n in
    let rs = excluded_at a.t.now a.place.bins a.place.ranges a.place.count a.p in
    let e = collected a.low rs a.room.now d.new.out d.result d.ensures.0 d.ensures.1 c.requires.1.fits in
    let j = c.settle in
    (omega (arith, j.ensures.0, ap length e, length-words a.low rs), subst (λ (l : List ℕ). Settled l (take j.result j.new.out)) e j.ensures.1)
