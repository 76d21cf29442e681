use Rattle.std.proofs.Common.{rules, ◌∙◌}
use Rattle.model.specs.Format.{read_point_section, read_point}
use Rattle.words.proofs.Laws.{handed}
use Rattle.words.proofs.Chain.{chain, rooms, record_on}
use Rattle.words.proofs.RecordLaws.{records_read}
use Rattle.check_values.proofs.points.point_section.Goals as goal

pub returns-in_err-start : goal.returns-in_err-start
unfolding read_point_section
returns-in_err-start c = handed _ _ c.from_residual.ensures ∙ search chain

pub records-requires-clause-bounds : goal.records-requires-clause-bounds
records-requires-clause-bounds c = search rooms

pub returns : goal.returns
unfolding read_point_section read_point
returns c = record_on _ _ _ _ _ _ _ _ _ c.in_ok-start.ensures c.read2-n.ensures (records_read _ _ _ _ _ _ _ c.records.ensures (search rules))
