use mathlib.Core.Path.{◌≡◌, sym, ap, subst, ◌∙◌}
use mathlib.Core.List.{List}
use Prim.Native.Nat.{ℕ}
use native.Mathlib.Omega.{arith}
use lib.ListN.{length, take}
use Rattle.model.specs.Lists.{all}
use Rattle.model.specs.Raw.{ranges_at}
use Rattle.spans.specs.Spans.{sound, Settled}
use Rattle.spans.proofs.CollectLaws.{collected, length-ranges, length-words, words-sound}
use Rattle.parts.proofs.SpanLaws.{settle_is}
use Rattle.parts.proofs.settled.settle_spans.Goals as goal

pub slice_bounds-settle-end-2 : goal.slice_bounds-settle-end-2
slice_bounds-settle-end-2 c =
    let a = c.args in
    let d = c.put_ranges-m in
    let rs = ranges_at a.t.now a.r a.n in
    let many = length-ranges a.t.now a.r a.n in
    let er : d.result ≡ length rs = omega (arith, d.ensures.0, many) in
    let e = collected a.low rs a.room.now d.new.out d.result er d.ensures.1 (omega arith) in
    er ∙ sym (ap length e ∙ length-words a.low rs)

pub settle-requires : goal.settle-requires
settle-requires c =
    let a = c.args in
    let d = c.put_ranges-m in
    let rs = ranges_at a.t.now a.r a.n in
    let many = length-ranges a.t.now a.r a.n in
    let er : d.result ≡ length rs = omega (arith, d.ensures.0, many) in
    let e = collected a.low rs a.room.now d.new.out d.result er d.ensures.1 (omega arith) in
    (omega (arith, ap length e, length-words a.low rs, many, c.requires), ap (all sound) e ∙ words-sound a.low rs c.requires.4)

pub returns : goal.returns
returns c =
    let a = c.args in
    let d = c.put_ranges-m in
    let rs = ranges_at a.t.now a.r a.n in
    let many = length-ranges a.t.now a.r a.n in
    let er : d.result ≡ length rs = omega (arith, d.ensures.0, many) in
    let e = collected a.low rs a.room.now d.new.out d.result er d.ensures.1 (omega arith) in
    let j = c.settle in
    (omega (arith, j.ensures.0, ap length e, length-words a.low rs, many), settle_is a.low rs c.requires.4 _ (subst (λ (l : List ℕ). Settled l (take j.result j.new.out)) e j.ensures.1))
