use Rattle.std.proofs.Common.{rules, ◌∙◌}
use Rattle.model.specs.Format.{read_step}
use Rattle.words.proofs.Laws.{tests, handed}
use Rattle.words.proofs.RecordLaws.{records_read}
use Rattle.check_transitions.proofs.StepLaws.{steps_stop, steps_on}
use Rattle.check_transitions.proofs.steps.sequence_steps.Goals as goal

pub returns-in_err-end : goal.returns-in_err-end
unfolding read_step
returns-in_err-end c = handed _ _ c.from_residual.ensures ∙ steps_stop _ _ _ _ (records_read _ _ _ _ _ _ _ c.in_err-end.ensures (search rules))

pub returns-in_err-test : goal.returns-in_err-test
unfolding read_step
returns-in_err-test c =
    handed _ _ c.from_residual-in_err-test.ensures
    ∙ steps_on _ _ _ _ _ _ _ (records_read _ _ _ _ _ _ _ c.in_ok-end.ensures (search rules)) c.sum_bytes-leasts.ensures.0 c.sum_bytes-mosts.ensures.0 (search tests)

pub returns : goal.returns
unfolding read_step
returns c =
    steps_on _ _ _ _ _ _ _ (records_read _ _ _ _ _ _ _ c.in_ok-end.ensures (search rules)) c.sum_bytes-leasts.ensures.0 c.sum_bytes-mosts.ensures.0 (search tests)
