use Rattle.ranges.proofs.RangeLaws.{low_typed}
use Rattle.values.proofs.points.lowest_at.Goals as goal

pub returns : goal.returns
returns c = low_typed c.args.t.now c.args.point _ _ _ c.type_at.ensures.width c.type_at.ensures.signed c.lowest.ensures.0
