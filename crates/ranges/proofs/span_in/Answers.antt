use Rattle.ranges.specs.Types.{span_in}
use Rattle.ranges.proofs.span_in.Goals as goal

pub returns : goal.returns
unfolding span_in
returns c = rw (c.all_pass-ends.ensures, c.end_tests.ensures, c.whole8-b.ensures, c.whole8-a.ensures, c.inside-kind.ensures)
