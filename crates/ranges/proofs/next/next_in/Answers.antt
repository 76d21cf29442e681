use Rattle.std.proofs.Common.{◌∙◌, arith, rules}
use Rattle.model.specs.Raw.{ranges_at}
use Rattle.ranges.proofs.NextLaws.{next-least, next_start, next-on, next-done}
use Rattle.ranges.proofs.next.next_in.Goals as goal

pub loop-i-init : goal.loop-i-init
loop-i-init c =
    let a = c.args in
    let from = c.min-from in
    (search rules, search rules, search rules, next-least (ranges_at a.t.now a.start a.n) a.x from.result from.ensures ∙ next_start a.t.now a.n from.result a.start)

pub loop-i-preserved : goal.loop-i-preserved
loop-i-preserved c =
    let l = c.loop-i in
    let from = c.min-from in
    let a = c.args in (
      search rules,
      search rules,
      omega (arith, c.min-best.ensures),
      next-on a.t.now a.n from.result l.i l.at _ l.best l.invariant.3 c.next_at-v.result c.min-best.result (search rules) c.next_at-v.ensures c.min-best.ensures,
    )

pub returns : goal.returns
returns c =
    let l = c.loop-i in
    let from = c.min-from in
    let a = c.args in
    (next-done a.t.now a.n from.result l.i l.at _ l.best l.invariant.3 (search rules) (search rules), search rules)
