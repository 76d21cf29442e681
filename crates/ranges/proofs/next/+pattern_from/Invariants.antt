use Rattle.ranges.proofs.next.+pattern_from.Given as goal

abbrev pub decreases-pattern_from : goal.decreases-pattern_from
decreases-pattern_from l = l.n
