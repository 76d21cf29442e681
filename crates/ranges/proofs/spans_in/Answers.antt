use Rattle.ranges.proofs.SpanLaws.{spanss}
use Rattle.ranges.proofs.spans_in.Goals as goal

pub loop-i-init : goal.loop-i-init
loop-i-init c = search spanss

pub span_in-requires : goal.span_in-requires
span_in-requires c = search spanss

pub returns-then-not-span_in : goal.returns-then-not-span_in
returns-then-not-span_in c = search spanss

pub overflow_add-at : goal.overflow_add-at
overflow_add-at c = search spanss

pub loop-i-preserved : goal.loop-i-preserved
loop-i-preserved c = search spanss

pub returns : goal.returns
returns c = search spanss
