use Rattle.std.proofs.Common.{rules}
use Rattle.ranges.specs.Taken.{taking}
use Rattle.ranges.proofs.taken.takes.Goals as goal

pub returns : goal.returns
unfolding taking
returns c = rw (← c.byte-point.ensures, ← c.byte.ensures, ← c.from-kind.ensures) (search rules)
