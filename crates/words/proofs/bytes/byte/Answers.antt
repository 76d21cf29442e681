use mathlib.Core.Path.{sym}
use lib.ListN.{get_or-eq_default}
use Rattle.words.proofs.bytes.byte.Goals as goal

pub returns-else-at-t : goal.returns-else-at-t
returns-else-at-t c = sym (get_or-eq_default c.args.t.now 0 c.if-at-t.false)
