use native.Mathlib.Omega.{arith}
use Rattle.spans.proofs.Ends.{joined_is}
use Rattle.spans.proofs.pairs.joined_with.Goals as goal

pub returns : goal.returns
returns c =
    joined_is _ _ _ _ _ c.span_word.ensures c.low_end.ensures.0 (omega (arith, c.max.ensures, c.high_end.ensures.0, c.high_end-2.ensures.0))
