use Rattle.parts.proofs.Plans.{auto-row}
use Rattle.parts.proofs.points.put_auto.Goals as goal

pub returns : goal.returns
returns c =
    let h = c.whole_type-q.ensures in
    (h.number, auto-row _ _ _ _ h _ _ _ _ c.share_of-share.ensures.0 c.put_row.ensures)
