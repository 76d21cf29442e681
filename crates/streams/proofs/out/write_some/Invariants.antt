use Rattle.std.proofs.Common.{◌-◌}
use Rattle.streams.proofs.out.write_some.Given as goal

abbrev pub invariant-loop-n : goal.invariant-loop-n
invariant-loop-n l = Unit {0}

abbrev pub decreases-loop-n : goal.decreases-loop-n
decreases-loop-n l = 100000000 - l.tries
