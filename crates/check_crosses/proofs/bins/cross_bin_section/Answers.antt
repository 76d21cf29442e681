use mathlib.Core.Path.{◌∙◌}
use Rattle.model.specs.Format.{read_cross_bin_section}
use Rattle.words.proofs.Chain.{chain}
use Rattle.words.proofs.Laws.{handed}
use Rattle.check_crosses.proofs.CrossLaws.{bins_on}
use borrow.Author.Rules.{rules}
use Rattle.check_crosses.proofs.bins.cross_bin_section.Goals as goal

pub returns-in_err-start : goal.returns-in_err-start
unfolding read_cross_bin_section
returns-in_err-start c = handed _ _ c.from_residual.ensures ∙ search chain

pub returns : goal.returns
returns c = search (rules, bins_on)
