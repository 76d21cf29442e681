use Rattle.ranges.specs.Types.{limits_of}
use Rattle.ranges.proofs.limits_of.Goals as goal

pub returns : goal.returns
unfolding limits_of
returns c = rw (c.power.ensures.0, c.lowest-low.ensures.0)
