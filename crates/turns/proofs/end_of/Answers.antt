use borrow.Author.Tests.{le-leb, lt-leb}
use Rattle.turns.proofs.end_of.Goals as goal

pub returns-then-size-n : goal.returns-then-size-n
returns-then-size-n c = simp (le-leb _ _ c.if-size-n.true)

pub returns-else-size-n : goal.returns-else-size-n
returns-else-size-n c = simp (lt-leb _ _ c.if-size-n.false)
