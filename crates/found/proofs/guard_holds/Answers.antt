use borrow.Author.Tests.{eq-eqb, ne_eqb}
use Rattle.found.specs.Found.{bin_guard}
use Rattle.found.proofs.guard_holds.Goals as goal

pub returns-then-b : goal.returns-then-b
unfolding bin_guard
returns-then-b c = rw (← c.element-b.ensures, eq-eqb _ 65535 c.if-b.true)

pub returns : goal.returns
unfolding bin_guard
returns c = rw (← c.element-b.ensures, ne_eqb _ 65535 c.if-b.false, ← c.byte-g.ensures) c.guard_true.ensures
