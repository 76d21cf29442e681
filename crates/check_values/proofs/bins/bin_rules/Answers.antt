use mathlib.Core.Path.{refl, ◌∙◌}
use Rattle.words.proofs.Laws.{tests, handed, passing, passed}
use Rattle.model.specs.Format.{bin_rules}
use Rattle.check_values.proofs.BinLaws.{number_tests}
use Rattle.check_values.proofs.bins.bin_rules.Goals as goal

pub returns-then-known-kinds : goal.returns-then-known-kinds
unfolding bin_rules passing
returns-then-known-kinds c = passed _ _ _ _ refl c.if-known-kinds.true (rw (c.pick-owns.ensures, c.bin_guard_ok-guarded.ensures, c.pick-numbered.ensures, ← number_tests))

pub returns-in_err-test : goal.returns-in_err-test
unfolding bin_rules
returns-in_err-test c = handed _ _ c.from_residual.ensures ∙ search tests

pub returns-in_err-test-2 : goal.returns-in_err-test-2
unfolding bin_rules
returns-in_err-test-2 c = handed _ _ c.from_residual-in_err-test-2.ensures ∙ search tests

pub returns-in_err-test-3 : goal.returns-in_err-test-3
unfolding bin_rules
returns-in_err-test-3 c = handed _ _ c.from_residual-in_err-test-3.ensures ∙ search tests

pub returns-in_err-test-4 : goal.returns-in_err-test-4
unfolding bin_rules
returns-in_err-test-4 c = handed _ _ c.from_residual-in_err-test-4.ensures ∙ search tests

pub returns-in_err-test-5 : goal.returns-in_err-test-5
unfolding bin_rules
returns-in_err-test-5 c = handed _ _ c.from_residual-in_err-test-5.ensures ∙ search tests

pub returns-in_err-test-6 : goal.returns-in_err-test-6
unfolding bin_rules
returns-in_err-test-6 c = handed _ _ c.from_residual-in_err-test-6.ensures ∙ search tests

pub returns-in_err-test-7 : goal.returns-in_err-test-7
unfolding bin_rules
returns-in_err-test-7 c = handed _ _ c.from_residual-in_err-test-7.ensures ∙ search tests

pub returns-in_err-test-8 : goal.returns-in_err-test-8
unfolding bin_rules
returns-in_err-test-8 c = handed _ _ c.from_residual-in_err-test-8.ensures ∙ search tests

pub returns : goal.returns
unfolding bin_rules
returns c = search tests
