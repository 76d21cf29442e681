use Rattle.std.proofs.Common.{le-leb}
use borrow.Author.Tests.{lt-leb}
use Rattle.ranges.specs.Types.{sound_spans}
use Rattle.ranges.proofs.sound_spans.Goals as goal

pub returns-then-t-start : goal.returns-then-t-start
unfolding sound_spans
returns-then-t-start c = rw (lt-leb _ _ c.if-t-start.true)

pub returns : goal.returns
unfolding sound_spans
returns c = rw (le-leb _ _ c.if-t-start.false, c.spans_in.ensures, c.limits_of.ensures, c.inside.ensures, c.inside-2.ensures)
