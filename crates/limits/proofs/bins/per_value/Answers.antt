use mathlib.Core.Path.{refl, ◌∙◌}
use Rattle.ranges.proofs.RangeLaws.{low_typed}
use borrow.Author.Rules.{rules}
use Rattle.limits.proofs.bins.per_value.Goals as goal

pub returns : goal.returns
returns c =
    let type = c.type_at.ensures in
    let low = low_typed c.args.t.now c.args.point _ _ c.lowest-low.result type.width type.signed c.lowest-low.ensures.0 in
    (c.value_count.ensures.0 ∙ rw low, search rules)
