use borrow.Author.Rules.{rules}
use mathlib.Core.Path.{◌∙◌}
use Rattle.words.proofs.Laws.{handed}
use Rattle.check_transitions.proofs.StepRangeLaws.{ranges_each}
use Rattle.check_transitions.proofs.step_ranges.ranges_each.Goals as goal

pub returns-in_err-at : goal.returns-in_err-at
returns-in_err-at c = handed _ _ c.from_residual.ensures ∙ search ranges_each

pub loop-i-preserved : goal.loop-i-preserved
loop-i-preserved c = (
  search rules,
  search (ranges_each, c.in_ok-at.ensures),
  search rules,
  search rules,
  search rules,
  search (ranges_each, c.in_ok-at.ensures),
)

pub returns : goal.returns
returns c = search ranges_each
