use mathlib.Core.Path.{sym, ◌∙◌}
use native.Mathlib.Omega.{arith}
use Rattle.values.proofs.CountLaws.{count_values, count_fixed}
use Rattle.values.proofs.counts.several_count.Goals as goal

pub returns-then-form-eq1 : goal.returns-then-form-eq1
returns-then-form-eq1 c =
    let a = c.args in
    let f = c.byte-form in
    let k = c.read2-k in
    (c.value_count.ensures.0 ∙ sym (count_values a.t.now a.b a.r a.low f.result f.ensures k.result k.ensures c.if-form-eq1.true), omega arith)

pub returns : goal.returns
returns c =
    let a = c.args in
    let f = c.byte-form in
    let n = c.read2-number in
    (sym (count_fixed a.t.now a.b a.r a.low f.result f.ensures n.result n.ensures (λ e. c.requires.3 (sym f.ensures ∙ e)) c.if-form-eq1.false), omega arith)
