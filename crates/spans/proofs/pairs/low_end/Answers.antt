use mathlib.Core.Path.{refl}
use native.Mathlib.Omega.{arith}
use Rattle.spans.specs.Spans.{low_end}
use Rattle.spans.proofs.pairs.low_end.Goals as goal

pub returns : goal.returns
unfolding low_end
returns c = (refl, omega arith)
