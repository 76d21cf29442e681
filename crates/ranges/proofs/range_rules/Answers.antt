use Rattle.std.proofs.Common.{eq-eqb, ne_eqb, ◌∙◌}
use Rattle.model.specs.Format.{range_rules}
use Rattle.words.specs.Verdicts.{verdict_in}
use Rattle.words.proofs.Laws.{tests, handed}
use Rattle.ranges.proofs.range_rules.Goals as goal

pub returns-then-kind-eq0 : goal.returns-then-kind-eq0
unfolding verdict_in range_rules
returns-then-kind-eq0 c = rw (eq-eqb _ 0 c.if-kind-eq0.true, c.value_tests.ensures)

pub returns-in_err-test : goal.returns-in_err-test
unfolding range_rules
returns-in_err-test c = handed _ _ c.from_residual.ensures ∙ (rw (ne_eqb _ 0 c.if-kind-eq0.false) (search tests))

pub returns : goal.returns
unfolding range_rules
returns c = rw (ne_eqb _ 0 c.if-kind-eq0.false) (search tests)
