use mathlib.Core.Path.{ap}
use mathlib.Core.Bool.{◌||◌}
use Rattle.crosses.proofs.bins.passing.Goals as goal

pub returns : goal.returns
returns c = ap (c.args.total ||◌) c.guard_true-y.ensures
