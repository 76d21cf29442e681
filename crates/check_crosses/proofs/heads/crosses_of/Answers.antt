use mathlib.Core.Path.{◌∙◌}
use Rattle.model.specs.Format.{read_cross}
use Rattle.words.proofs.Laws.{timess, handed}
use Rattle.check_crosses.proofs.heads.crosses_of.Goals as goal

pub returns-in_err-at : goal.returns-in_err-at
returns-in_err-at c = handed _ _ c.from_residual.ensures ∙ search timess

pub loop-i-preserved : goal.loop-i-preserved
unfolding read_cross
loop-i-preserved c = search timess

pub returns : goal.returns
returns c = search timess
