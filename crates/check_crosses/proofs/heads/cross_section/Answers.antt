use mathlib.Core.Path.{◌∙◌}
use Rattle.model.specs.Format.{read_cross_section}
use Rattle.words.proofs.Chain.{chain, record_on}
use Rattle.words.proofs.Laws.{handed}
use Rattle.check_crosses.proofs.heads.cross_section.Goals as goal

pub returns-in_err-start : goal.returns-in_err-start
unfolding read_cross_section
returns-in_err-start c = handed _ _ c.from_residual.ensures ∙ search chain

pub returns : goal.returns
unfolding read_cross_section
returns c = record_on _ 2 _ _ _ _ _ _ _ c.in_ok-start.ensures c.read2-n.ensures c.crosses_of.ensures
