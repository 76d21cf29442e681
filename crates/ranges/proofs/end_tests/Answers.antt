use Rattle.ranges.specs.Types.{end_tests}
use Rattle.ranges.proofs.end_tests.Goals as goal

pub returns : goal.returns
unfolding end_tests
returns c = rw (c.fits-2.ensures, c.fits.ensures, c.value_at-vb.ensures, c.value_at-va.ensures)
