use Rattle.model.specs.Raw.{records_place, count_place}
use Rattle.refusals.proofs.point_in_width.Goals as goal

pub returns : goal.returns
unfolding records_place count_place
returns c = rw (c.in_width-2.ensures, c.in_width.ensures, c.word-unknown.ensures, c.word-value.ensures, c.byte-width.ensures)
