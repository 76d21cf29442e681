use mathlib.Core.Path.{sym, ◌∙◌}
use Rattle.layout.proofs.PlaceLaws.{point-count-first}
use Rattle.layout.proofs.point_count.Goals as goal

pub returns-clause-value : goal.returns-clause-value
returns-clause-value c = c.from.ensures ∙ c.read2.ensures ∙ sym (point-count-first c.args.t.now)
