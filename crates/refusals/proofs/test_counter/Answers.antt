use Rattle.refusals.proofs.CallLaws.{counter_on}
use Rattle.refusals.proofs.test_counter.Goals as goal

pub returns-clause-call_refusal : goal.returns-clause-call_refusal
returns-clause-call_refusal c = counter_on _ _ _ _ c.test_part.ensures
