use Rattle.products.proofs.shapes.size_at.Goals as goal

pub returns : goal.returns
returns c = cc
