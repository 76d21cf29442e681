use Rattle.std.proofs.Common.{rules}
use Rattle.operators.specs.Operators.{Says, and_of}
use Rattle.operators.proofs.and_into.Goals as goal

pub returns : goal.returns
unfolding Says and_of
returns c x h = search (rules, c.combine.ensures x h)
