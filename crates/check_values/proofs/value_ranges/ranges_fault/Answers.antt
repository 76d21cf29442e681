use mathlib.Core.Path.{◌∙◌}
use Rattle.words.proofs.Laws.{handed}
use borrow.Author.Rules.{rules}
use Rattle.check_values.proofs.RangeLaws.{owned_ranges}
use Rattle.check_values.proofs.value_ranges.ranges_fault.Goals as goal

pub returns-in_err-at : goal.returns-in_err-at
returns-in_err-at c = handed _ _ c.from_residual.ensures ∙ search owned_ranges

pub loop-i-preserved : goal.loop-i-preserved
loop-i-preserved c = (search rules, search (owned_ranges, c.in_ok-at.ensures), search rules, search (owned_ranges, c.in_ok-at.ensures))

pub returns : goal.returns
returns c = search owned_ranges
