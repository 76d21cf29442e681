use mathlib.Core.Path.{◌∙◌, ap}
use Rattle.refusals.specs.Numbers.{number_in}
use Rattle.refusals.specs.declared.refusal.Refusal.TheVariants.{Length, Width, Report, Stopped, Full}
use Rattle.refusals.specs.Refusals.{own_refusal}
use Rattle.refusals.proofs.Numbers.{handed, first_stop, first_on, first_last}
use Rattle.refusals.proofs.test_sample.Goals as goal

pub returns-in_err-test : goal.returns-in_err-test
unfolding own_refusal
returns-in_err-test c = ap number_in (handed _ _ c.from_residual.ensures) ∙ first_stop _ Length _ _ c.in_err-test.ensures

pub returns-in_err-test-2 : goal.returns-in_err-test-2
unfolding own_refusal
returns-in_err-test-2 c = ap number_in (handed _ _ c.from_residual-in_err-test-2.ensures) ∙ (rw (← c.in_widths.ensures) (first_on _ Length _ _ c.in_ok-test.ensures (first_stop _ Width _ _ c.in_err-test-2.ensures)))

pub returns-in_err-test-3 : goal.returns-in_err-test-3
unfolding own_refusal
returns-in_err-test-3 c = ap number_in (handed _ _ c.from_residual-in_err-test-3.ensures) ∙ (rw (← c.in_widths.ensures) (first_on _ Length _ _ c.in_ok-test.ensures (first_on _ Width _ _ c.in_ok-test-2.ensures (first_stop _ Report _ _ c.in_err-test-3.ensures))))

pub returns-in_err-test-4 : goal.returns-in_err-test-4
unfolding own_refusal
returns-in_err-test-4 c = ap number_in (handed _ _ c.from_residual-in_err-test-4.ensures) ∙ (rw (← c.in_widths.ensures) (first_on _ Length _ _ c.in_ok-test.ensures (first_on _ Width _ _ c.in_ok-test-2.ensures (first_on _ Report _ _ c.in_ok-test-3.ensures (first_stop _ Stopped _ _ c.in_err-test-4.ensures)))))

pub returns : goal.returns
unfolding own_refusal
returns c = rw (← c.in_widths.ensures) (first_on _ Length _ _ c.in_ok-test.ensures (first_on _ Width _ _ c.in_ok-test-2.ensures (first_on _ Report _ _ c.in_ok-test-3.ensures (first_on _ Stopped _ _ c.in_ok-test-4.ensures (first_last _ Full _ c.test-5.ensures)))))
