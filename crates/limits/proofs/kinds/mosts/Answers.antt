use Prim.Native.Nat.{◌+◌}
use mathlib.Core.Path.{◌∙◌}
use Rattle.limits.proofs.WalkLaws.{walks, walk-on, walk-bytes}
use borrow.Author.Rules.{rules}
use Rattle.limits.proofs.kinds.mosts.Goals as goal

pub loop-i-init : goal.loop-i-init
loop-i-init c = search walks

pub loop-i-preserved : goal.loop-i-preserved
loop-i-preserved c =
    let l = c.loop-i in
    let s = c.args.t.now in
    let m = c.from-m.ensures ∙ c.byte.ensures in
    let k = c.sum_bytes-k.ensures.0 ∙ walk-bytes s 1 l.q c.from-m.result in
    let found = c.sum_bytes-found.ensures.0 ∙ walk-bytes s 3 (l.p + 2) c.sum_bytes-k.result in (
      search rules,
      search rules,
      search rules,
      search rules,
      search rules,
      walk-on _ _ _ _ _ _ _ l.invariant.5 _ _ (search rules) (found ∙ rw (k, m)) (rw (k, m)),
    )

pub returns : goal.returns
returns c = (search walks, search rules)
