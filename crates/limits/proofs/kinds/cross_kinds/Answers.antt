use mathlib.Core.Path.{◌∙◌}
use Rattle.limits.proofs.WalkLaws.{walks, walk-on}
use borrow.Author.Rules.{rules}
use Rattle.limits.proofs.kinds.cross_kinds.Goals as goal

pub loop-i-init : goal.loop-i-init
loop-i-init c = search walks

pub loop-i-preserved : goal.loop-i-preserved
loop-i-preserved c =
    let k = c.from-k.ensures ∙ c.byte.ensures in (
      search rules,
      search rules,
      search rules,
      search rules,
      walk-on _ _ _ _ _ _ _ c.loop-i.invariant.4 _ _ (search rules) (c.count_kind-found.ensures.0 ∙ rw k) (rw k),
    )

pub returns : goal.returns
returns c = (search walks, search rules)
