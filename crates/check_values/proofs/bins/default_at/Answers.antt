use Rattle.std.proofs.Common.{rules}
use Rattle.check_values.specs.Places.{is_default_of}
use Rattle.check_values.proofs.bins.default_at.Goals as goal

pub returns : goal.returns
unfolding is_default_of
returns c = rw (← c.byte.ensures, ← c.byte-2.ensures) (search rules)
