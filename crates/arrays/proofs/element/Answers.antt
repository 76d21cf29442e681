-- `arrays::element` meets its contract. Assumes nothing.
use mathlib.Core.Path.{sym}
use lib.ListN.{get_or-eq_default}
use Rattle.arrays.proofs.element.Goals as goal

pub returns-else-at-a : goal.returns-else-at-a
returns-else-at-a c = sym (get_or-eq_default c.args.a.now 0 c.if-at-a.false)
