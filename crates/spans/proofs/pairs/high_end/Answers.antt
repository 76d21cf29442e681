use mathlib.Core.Path.{refl}
use native.Mathlib.Omega.{arith}
use Rattle.spans.specs.Spans.{high_end}
use Rattle.spans.proofs.pairs.high_end.Goals as goal

pub returns : goal.returns
unfolding high_end
returns c = (refl, omega arith)
