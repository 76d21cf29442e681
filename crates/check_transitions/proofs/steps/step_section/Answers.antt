use mathlib.Core.Path.{◌∙◌}
use Rattle.words.proofs.Laws.{handed}
use Rattle.check_transitions.proofs.StepLaws.{step_section}
use Rattle.check_transitions.proofs.steps.step_section.Goals as goal

pub returns-in_err-start : goal.returns-in_err-start
returns-in_err-start c = handed _ _ c.from_residual.ensures ∙ search step_section

pub steps_each-requires : goal.steps_each-requires
steps_each-requires c = search step_section

pub returns : goal.returns
returns c = search (step_section, c.in_ok-start.ensures)
