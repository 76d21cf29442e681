use Rattle.found.proofs.HitLaws.{counted}
use Rattle.found.proofs.put_found.Goals as goal

pub returns : goal.returns
returns c = counted _ _ _ _ c.requires.room c.put_hit-n.ensures.0 c.put_hit-n.ensures.2
