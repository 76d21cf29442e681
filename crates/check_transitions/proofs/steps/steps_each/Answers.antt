use borrow.Author.Rules.{rules}
use mathlib.Core.Path.{◌∙◌}
use Rattle.words.proofs.Laws.{handed}
use Rattle.check_transitions.proofs.StepLaws.{steps_each}
use Rattle.check_transitions.proofs.steps.steps_each.Goals as goal

pub returns-in_err-at : goal.returns-in_err-at
returns-in_err-at c = handed _ _ c.from_residual.ensures ∙ search steps_each

pub loop-i-preserved : goal.loop-i-preserved
loop-i-preserved c = (search rules, search (steps_each, c.in_ok-at.ensures), search rules, search (steps_each, c.in_ok-at.ensures))

pub returns : goal.returns
returns c = search steps_each
