use mathlib.Core.Path.{◌∙◌}
use Rattle.words.proofs.Laws.{tests, handed}
use Rattle.check_transitions.proofs.steps.step_tests.Goals as goal

pub returns-in_err-test : goal.returns-in_err-test
returns-in_err-test c = handed _ _ c.from_residual.ensures ∙ search tests

pub returns-in_err-test-2 : goal.returns-in_err-test-2
returns-in_err-test-2 c = handed _ _ c.from_residual-in_err-test-2.ensures ∙ search tests

pub returns-in_err-test-3 : goal.returns-in_err-test-3
returns-in_err-test-3 c = handed _ _ c.from_residual-in_err-test-3.ensures ∙ search tests

pub returns : goal.returns
returns c = search tests
