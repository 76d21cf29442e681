use mathlib.Core.Path.{◌∙◌}
use Rattle.model.specs.Format.{value_tests}
use Rattle.words.proofs.Laws.{tests, handed}
use Rattle.ranges.specs.Types.{end_tests, limits_of, lowest_of, power_of, value_at}
use Rattle.ranges.proofs.value_tests.Goals as goal

pub returns-in_err-test : goal.returns-in_err-test
unfolding value_tests end_tests limits_of lowest_of power_of value_at
returns-in_err-test c = handed _ _ c.from_residual.ensures ∙ search tests

pub returns-in_err-test-2 : goal.returns-in_err-test-2
unfolding value_tests end_tests limits_of lowest_of power_of value_at
returns-in_err-test-2 c = handed _ _ c.from_residual-in_err-test-2.ensures ∙ search tests

pub returns : goal.returns
unfolding value_tests end_tests limits_of lowest_of power_of value_at
returns c = search tests
