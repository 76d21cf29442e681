use Rattle.ranges.specs.Types.{value_at}
use Rattle.std.proofs.Common.{rules}
use Rattle.ranges.proofs.value_at.Goals as goal

pub returns : goal.returns
unfolding value_at
returns c = search rules
