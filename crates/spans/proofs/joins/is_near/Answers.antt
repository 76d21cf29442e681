use Rattle.spans.proofs.joins.is_near.Goals as goal

pub returns : goal.returns
returns c = rw (← c.high_end.ensures.0, ← c.low_end.ensures.0)
