use Rattle.ranges.specs.Types.{value_at}
use borrow.Author.Rules.{rules}
use Rattle.values.proofs.fields.field.Goals as goal

pub returns : goal.returns
unfolding value_at
returns c = search rules
