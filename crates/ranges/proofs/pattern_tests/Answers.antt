use mathlib.Core.Path.{◌∙◌}
use Rattle.model.specs.Format.{pattern_tests}
use Rattle.words.proofs.Laws.{tests, handed}
use Rattle.ranges.specs.Types.{power_of}
use Rattle.ranges.proofs.pattern_tests.Goals as goal

pub returns-in_err-test : goal.returns-in_err-test
unfolding pattern_tests power_of
returns-in_err-test c = handed _ _ c.from_residual.ensures ∙ search tests

pub returns-in_err-test-2 : goal.returns-in_err-test-2
unfolding pattern_tests power_of
returns-in_err-test-2 c = handed _ _ c.from_residual-in_err-test-2.ensures ∙ search tests

pub returns : goal.returns
unfolding pattern_tests power_of
returns c = search tests
