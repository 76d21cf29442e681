use mathlib.Core.Path.{◌∙◌}
use Rattle.words.proofs.Laws.{handed}
use Rattle.table.proofs.check.check.Goals as goal

pub returns-in_err-examine : goal.returns-in_err-examine
returns-in_err-examine c = handed _ _ c.from_residual.ensures ∙ c.in_err-examine.ensures.0

pub returns : goal.returns
returns c = c.in_ok-examine.ensures.0
