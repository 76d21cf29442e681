use Rattle.refusals.proofs.RefusalLaws.{item-part}
use Rattle.refusals.proofs.test_item.Goals as goal

pub returns : goal.returns
returns c = item-part _ _ _ _ _ c.test_part.ensures
