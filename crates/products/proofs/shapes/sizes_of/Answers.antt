use Rattle.products.specs.Parts.{sizes_at}
use Rattle.products.proofs.shapes.sizes_of.Goals as goal

pub returns : goal.returns
unfolding sizes_at
returns c = cc
