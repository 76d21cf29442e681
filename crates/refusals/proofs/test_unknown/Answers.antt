use Rattle.refusals.proofs.CallLaws.{unknown_on}
use Rattle.refusals.proofs.test_unknown.Goals as goal

pub returns-clause-call_refusal : goal.returns-clause-call_refusal
returns-clause-call_refusal c = unknown_on _ _ _ _ c.test_part.ensures
