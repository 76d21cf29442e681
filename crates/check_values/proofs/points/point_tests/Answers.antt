use mathlib.Core.Path.{refl, ◌∙◌}
use Rattle.words.proofs.Laws.{tests, handed, passing, passed}
use Rattle.check_values.proofs.points.point_tests.Goals as goal

pub returns-then-wide-signed : goal.returns-then-wide-signed
unfolding passing
returns-then-wide-signed c = passed _ _ _ _ refl c.if-wide-signed.true (rw (c.whole2-most.ensures, c.read4-least.ensures, c.guard_ok-guarded.ensures, c.inside.ensures, c.inside-sign.ensures, c.inside-width.ensures))

pub returns-in_err-test : goal.returns-in_err-test
returns-in_err-test c = handed _ _ c.from_residual.ensures ∙ search tests

pub returns-in_err-test-2 : goal.returns-in_err-test-2
returns-in_err-test-2 c = handed _ _ c.from_residual-in_err-test-2.ensures ∙ search tests

pub returns-in_err-test-3 : goal.returns-in_err-test-3
returns-in_err-test-3 c = handed _ _ c.from_residual-in_err-test-3.ensures ∙ search tests

pub returns-in_err-test-4 : goal.returns-in_err-test-4
returns-in_err-test-4 c = handed _ _ c.from_residual-in_err-test-4.ensures ∙ search tests

pub returns : goal.returns
returns c = search tests
