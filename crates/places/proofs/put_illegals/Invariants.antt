use Rattle.places.specs.Places.{of_kind}
use Rattle.places.proofs.put_illegals.Given as goal

abbrev pub ghost-put_where : goal.ghost-put_where
ghost-put_where a = of_kind 2
