use mathlib.Core.Path.{refl}
use Rattle.spans.specs.Spans.{span_word}
use Rattle.spans.proofs.pairs.span_word.Goals as goal

pub returns : goal.returns
unfolding span_word
returns c = refl
