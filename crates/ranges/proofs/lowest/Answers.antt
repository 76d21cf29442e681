use Rattle.std.proofs.Common.{arith, rules}
use Rattle.ranges.specs.Types.{lowest_of}
use Rattle.ranges.proofs.RangeLaws.{power_half}
use Rattle.ranges.proofs.lowest.Goals as goal

pub overflow_sub-result : goal.overflow_sub-result
overflow_sub-result c = omega (arith, power_half c.args.p.width c.args.p.wide.1)

pub returns-then-p : goal.returns-then-p
unfolding lowest_of
returns-then-p c = search rules

pub returns-else-p : goal.returns-else-p
unfolding lowest_of
returns-else-p c = search rules
