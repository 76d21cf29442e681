use mathlib.Core.Path.{refl, sym, ◌∙◌}
use native.Mathlib.Omega.{arith}
use borrow.Author.Rules.{rules}
use Rattle.parts.proofs.SpanLaws.{sum-turn, sound-first, sound-rest, spans_start, spans-turn, spans_end}
use Rattle.parts.proofs.settled.put_spans.Goals as goal

pub loop-i-init : goal.loop-i-init
loop-i-init c =
    let a = c.args in
    (omega arith, refl, omega arith, c.requires.2, spans_start a.spans.now a.c a.low a.d.first a.d.last a.d.share a.out.now)

pub span_size-before-requires : goal.span_size-before-requires
span_size-before-requires c =
    let a = c.args in
    let l = c.loop-i in
    sound-first a.spans.now l.i (omega arith) l.invariant.3

pub overflow_add-before : goal.overflow_add-before
overflow_add-before c =
    let a = c.args in
    let l = c.loop-i in
    omega (arith, sum-turn a.spans.now l.i (omega arith) c.span_size-before.result c.span_size-before.ensures, l.invariant.2)

pub loop-i-preserved : goal.loop-i-preserved
loop-i-preserved c =
    let a = c.args in
    let l = c.loop-i in
    let z = c.span_size-before in (
      omega arith,
      search rules,
      omega (arith, sum-turn a.spans.now l.i (omega arith) z.result z.ensures, l.invariant.2),
      sound-rest a.spans.now l.i (omega arith) l.invariant.3,
      spans-turn a.spans.now l.i (omega arith) a.c a.low a.d.first a.d.last a.d.share l.before z.result l.out _ z.ensures (omega arith) c.put_span.ensures ∙ l.invariant.4,
    )

pub returns : goal.returns
returns c =
    let a = c.args in
    let l = c.loop-i in
    (omega arith, sym (spans_end a.spans.now l.i a.c a.low a.d.first a.d.last a.d.share l.before l.out (omega arith)) ∙ l.invariant.4)
