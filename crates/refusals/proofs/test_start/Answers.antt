use Rattle.refusals.proofs.CallLaws.{start_on}
use Rattle.refusals.proofs.test_start.Goals as goal

pub returns : goal.returns
returns c = start_on _ _ _ c.test_register.ensures
