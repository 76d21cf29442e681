use Rattle.points.proofs.SpreadLaws.{one_cover, one_other}
use Rattle.points.proofs.spread.spread_one.Goals as goal

pub returns-then-kind-eq0 : goal.returns-then-kind-eq0
returns-then-kind-eq0 c = one_cover c.args.kind c.args.x c.if-kind-eq0.true

pub returns-else-kind-eq0 : goal.returns-else-kind-eq0
returns-else-kind-eq0 c = one_other c.args.kind c.args.x c.as_bit.result c.if-kind-eq0.false c.as_bit.ensures
