use Rattle.places.specs.Places.{is_set}
use Rattle.places.proofs.put_set.Given as goal

abbrev pub ghost-put_where : goal.ghost-put_where
ghost-put_where a = is_set
