use mathlib.Core.Path.{refl, sym, ◌∙◌}
use native.Mathlib.Omega.{arith}
use lib.ListN.{length-set}
use Rattle.points.proofs.SpreadLaws.{spread-start, spread_turn, spread_end}
use Rattle.points.proofs.spread.scatter_some.Goals as goal

pub loop-i-init : goal.loop-i-init
loop-i-init c =
    let a = c.args in
    (omega arith, refl, omega arith, spread-start a.kinds.now a.has.now a.from a.at a.n a.flags.now)

pub bounds-flags-from : goal.bounds-flags-from
bounds-flags-from c = omega (arith, c.loop-i.invariant.1, c.requires.0)

pub loop-i-preserved : goal.loop-i-preserved
loop-i-preserved c =
    let a = c.args in
    let l = c.loop-i in
    let y = c.spread_one-y in
    let q = c.next_at-a in
    (omega arith, simp length-set l.invariant.1, omega (arith, q.ensures.1, l.invariant.2), spread_turn a.kinds.now a.has.now a.from a.n l.i l.a q.result y.result l.flags (omega arith) (omega (arith, l.invariant.1, c.requires.0)) y.ensures q.ensures.0 ∙ l.invariant.3)

pub returns : goal.returns
returns c =
    let a = c.args in
    let l = c.loop-i in
    sym (spread_end a.kinds.now a.has.now a.from a.n l.i l.a l.flags (omega arith)) ∙ l.invariant.3
