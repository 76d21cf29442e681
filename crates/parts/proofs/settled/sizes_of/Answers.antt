use native.Mathlib.Omega.{arith}
use Rattle.parts.proofs.SpanLaws.{sum-turn, sum_end, sound-first, sound-rest}
use Rattle.parts.proofs.settled.sizes_of.Goals as goal

pub loop-span-init : goal.loop-span-init
loop-span-init c = (omega arith, omega arith, c.requires.0)

pub span_size-sum-requires : goal.span_size-sum-requires
span_size-sum-requires c =
    let a = c.args in
    let l = c.loop-span in
    sound-first a.spans.now l.span-index (omega arith) l.invariant.2

pub overflow_add-sum : goal.overflow_add-sum
overflow_add-sum c =
    let a = c.args in
    let l = c.loop-span in
    omega (arith, sum-turn a.spans.now l.span-index (omega arith) c.span_size-sum.result c.span_size-sum.ensures, l.invariant.1)

pub loop-span-preserved : goal.loop-span-preserved
loop-span-preserved c =
    let a = c.args in
    let l = c.loop-span in
    (omega arith, omega (arith, sum-turn a.spans.now l.span-index (omega arith) c.span_size-sum.result c.span_size-sum.ensures, l.invariant.1), sound-rest a.spans.now l.span-index (omega arith) l.invariant.2)

pub returns : goal.returns
returns c =
    let a = c.args in
    let l = c.loop-span in
    omega (arith, sum_end a.spans.now l.span-index (omega arith), l.invariant.1)
