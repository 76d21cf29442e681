use Rattle.std.proofs.Common.{sym, refl, ◌∙◌}
use Rattle.ranges.proofs.CountLaws.{span_record, span-first, pattern-first}
use Rattle.ranges.proofs.counts.stretch_at.Goals as goal

pub returns-then-kind-eq0 : goal.returns-then-kind-eq0
returns-then-kind-eq0 c =
    let s = c.args.t.now in
    let a = c.args in
    let lo = c.value_at-lo in
    let hi = c.value_at-hi in
    span-first s a.at a.x lo.result hi.result _ (span_record s a.at _ _ lo.result hi.result (sym c.byte-kind.ensures ∙ c.if-kind-eq0.true) c.read8-a.ensures lo.ensures c.read8-b.ensures hi.ensures) c.next_in_span-first.ensures refl

pub returns : goal.returns
returns c =
    let a = c.args in
    pattern-first a.t.now a.at a.x _ _ _ (λ e. c.if-kind-eq0.false (c.byte-kind.ensures ∙ e)) c.read8-a.ensures c.read8-b.ensures c.next_in_pattern-first.ensures refl
