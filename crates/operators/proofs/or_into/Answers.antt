use Rattle.std.proofs.Common.{rules}
use Rattle.operators.specs.Operators.{Says, or_of}
use Rattle.operators.proofs.or_into.Goals as goal

pub returns : goal.returns
unfolding Says or_of
returns c x h = search (rules, c.combine.ensures x h)
