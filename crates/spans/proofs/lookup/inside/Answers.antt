use mathlib.Core.Path.{sym, ap, ◌∙◌}
use native.Mathlib.Omega.{arith}
use lib.Dec.{leb}
use borrow.Author.Tests.{le-ltb}
use Rattle.spans.proofs.LookLaws.{none-begun, begun-is}
use Rattle.spans.proofs.lookup.inside.Goals as goal

pub returns-then-k-gt0 : goal.returns-then-k-gt0
returns-then-k-gt0 c =
    ap (leb c.args.x) c.high_end.ensures.0 ∙ begun-is c.args.spans.now c.requires c.args.x _ c.begun-k.ensures (omega arith)

pub returns-else-k-gt0 : goal.returns-else-k-gt0
returns-else-k-gt0 c =
    le-ltb 0 c.begun-k.result c.if-k-gt0.false ∙ sym (none-begun c.args.spans.now c.requires c.args.x _ c.begun-k.ensures (omega arith))
