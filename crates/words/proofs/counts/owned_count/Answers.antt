use mathlib.Core.Path.{◌∙◌}
use Rattle.words.proofs.Laws.{records, handed}
use Rattle.words.proofs.counts.owned_count.Goals as goal

pub returns-in_err-end : goal.returns-in_err-end
returns-in_err-end c = handed _ _ c.from_residual.ensures ∙ search (records, c.in_err-end.ensures.value)

pub returns-in_err-test : goal.returns-in_err-test
returns-in_err-test c = handed _ _ c.from_residual-in_err-test.ensures ∙ search records

pub returns-in_err-test-2 : goal.returns-in_err-test-2
returns-in_err-test-2 c = handed _ _ c.from_residual-in_err-test-2.ensures ∙ search records

pub returns : goal.returns
returns c = search records
