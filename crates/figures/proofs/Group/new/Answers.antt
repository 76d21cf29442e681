use mathlib.Core.Path.{refl}
use native.Mathlib.Omega.{arith}
use Rattle.model.specs.Lists.{keep, sum_of}
use Rattle.figures.specs.Figures.{sums}
use Rattle.figures.proofs.Group.new.Goals as goal

pub returns : goal.returns
unfolding sums keep sum_of
returns c = (refl, refl, omega arith)
