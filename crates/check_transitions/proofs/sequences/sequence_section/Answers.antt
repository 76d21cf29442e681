use Rattle.std.proofs.Common.{◌∙◌}
use Rattle.model.specs.Format.{read_sequence}
use Rattle.words.proofs.Laws.{tests, handed}
use Rattle.words.proofs.RecordLaws.{records_read}
use Rattle.check_transitions.proofs.SequenceLaws.{sequences, sequence_on}
use Rattle.check_transitions.proofs.sequences.sequence_section.Goals as goal

pub returns-in_err-start : goal.returns-in_err-start
returns-in_err-start c = handed _ _ c.from_residual.ensures ∙ search sequences

pub records-requires-clause-bounds : goal.records-requires-clause-bounds
records-requires-clause-bounds c = search sequences

pub returns : goal.returns
unfolding read_sequence
returns c = sequence_on _ _ _ _ _ c.sum_bytes-sum.ensures.0 _ _ c.in_ok-start.ensures (records_read _ _ _ _ _ _ _ c.records.ensures (search tests))
