use Rattle.crosses.proofs.Places.{nth-first}
use Rattle.crosses.proofs.order.first_place.Goals as goal

pub returns : goal.returns
returns c = λ s e. nth-first s c.args.l e
