use Rattle.ranges.proofs.CountLaws.{span_record}
use Rattle.ranges.proofs.counts.span_at.Goals as goal

pub returns : goal.returns
returns c =
    span_record c.args.t.now c.args.at _ _ _ _ c.requires.1 c.read8.ensures c.value_at-a.ensures c.read8-2.ensures c.value_at-b.ensures
