use mathlib.Core.Path.{◌∙◌}
use Rattle.words.proofs.Laws.{handed}
use Rattle.check_transitions.proofs.StepRangeLaws.{step_range_section}
use Rattle.check_transitions.proofs.step_ranges.step_range_section.Goals as goal

pub returns-in_err-start : goal.returns-in_err-start
returns-in_err-start c = handed _ _ c.from_residual.ensures ∙ search step_range_section

pub ranges_each-requires : goal.ranges_each-requires
ranges_each-requires c = search step_range_section

pub returns : goal.returns
returns c = search (step_range_section, c.in_ok-start.ensures)
