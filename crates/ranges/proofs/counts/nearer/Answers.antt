use Rattle.ranges.proofs.CountLaws.{nearer_other, nearer_kept}
use Rattle.ranges.proofs.counts.nearer.Goals as goal

pub returns-then-other-best : goal.returns-then-other-best
returns-then-other-best c = let a = c.args in nearer_other a.best a.other c.if-other-best.true

pub returns-else-other-best : goal.returns-else-other-best
returns-else-other-best c = let a = c.args in nearer_kept a.best a.other c.if-other-best.false
