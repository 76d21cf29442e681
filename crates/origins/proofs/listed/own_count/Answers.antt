use mathlib.Core.Path.{sym, ◌∙◌}
use native.Mathlib.Omega.{arith}
use Rattle.words.specs.declared.kinds.Kind.TheVariants.{Cover}
use Rattle.words.proofs.KindLaws.{cover-byte, no_cover-byte, apart, alike}
use Rattle.values.proofs.CountLaws.{count_single}
use Rattle.origins.proofs.CountLaws.{own_other, own-kind, own-cover}
use Rattle.origins.proofs.listed.own_count.Goals as goal

pub returns-then-q-p : goal.returns-then-q-p
returns-then-q-p c =
    let a = c.args in
    let x = c.byte-q in
    (sym (own_other a.t.now a.b a.r a.low a.p x.result x.ensures c.if-q-p.true), omega arith)

pub returns-then-ne : goal.returns-then-ne
returns-then-ne c =
    let a = c.args in
    let x = c.byte-q in
    let k = c.byte in
    let m = c.from-kind in
    (sym (own-kind a.t.now a.b a.r a.low a.p x.result x.ensures k.result k.ensures (no_cover-byte m.result k.result m.ensures (apart m.result Cover c.ne.result c.ne.ensures c.if-ne.true))), omega arith)

pub returns-then-form-eq0 : goal.returns-then-form-eq0
returns-then-form-eq0 c =
    let a = c.args in
    let x = c.byte-q in
    let k = c.byte in
    let m = c.from-kind in
    let f = c.byte-form in
    (sym (own-cover a.t.now a.b a.r a.low a.p x.result x.ensures k.result k.ensures c.if-q-p.false (cover-byte m.result k.result m.ensures (alike m.result Cover c.ne.result c.ne.ensures c.if-ne.false)) ∙ count_single a.t.now a.b a.r a.low f.result f.ensures c.if-form-eq0.true), omega arith)

pub several_count-requires : goal.several_count-requires
several_count-requires c =
    let p = c.requires in
    (p.0, p.1, p.2, λ e. c.if-form-eq0.false (c.byte-form.ensures ∙ e))

pub returns : goal.returns
returns c =
    let a = c.args in
    let x = c.byte-q in
    let k = c.byte in
    let m = c.from-kind in
    (c.several_count.ensures.0 ∙ sym (own-cover a.t.now a.b a.r a.low a.p x.result x.ensures k.result k.ensures c.if-q-p.false (cover-byte m.result k.result m.ensures (alike m.result Cover c.ne.result c.ne.ensures c.if-ne.false))), omega arith)
