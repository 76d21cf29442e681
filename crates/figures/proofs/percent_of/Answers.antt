use lib.Ieee.{of_bits, of_fields, odd}
use Rattle.figures.proofs.percent_of.Goals as goal

pub returns-in-Nothing : goal.returns-in-Nothing
unfolding of_bits of_fields odd
returns-in-Nothing c = rw c.in-Nothing.is
