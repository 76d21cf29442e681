use mathlib.Core.Path.{ap₂}
use mathlib.Core.Bool.{Bool, not, ◌&&◌}
use Rattle.values.proofs.points.has_auto.Goals as goal

pub returns : goal.returns
returns c = ap₂ (λ (x y : Bool). not x && not y) c.some_own-x.ensures c.some_own-y.ensures
