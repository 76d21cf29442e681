use native.Mathlib.Omega.{arith}
use borrow.Author.Tests.{leb-true}
use Rattle.spans.specs.Spans.{low_end, high_end}
use Rattle.parts.proofs.settled.span_size.Goals as goal

pub overflow_sub-result : goal.overflow_sub-result
overflow_sub-result c =
    omega (arith, c.low_end.ensures.0, c.high_end.ensures.0, leb-true (low_end c.args.span) (high_end c.args.span) c.requires)
