use mathlib.Core.Path.{◌∙◌}
use Rattle.ranges.specs.Types.{power_of}
use borrow.Author.Rules.{rules}
use Rattle.limits.proofs.points.auto_count.Goals as goal

pub returns : goal.returns
unfolding power_of
returns c = (c.min.ensures ∙ rw (c.from-most.ensures, c.read2.ensures, c.power-all.ensures.0, c.type_at.ensures.width), search rules)
