use mathlib.Core.Path.{sym, ◌∙◌}
use native.Mathlib.Nat.{sub-zero}
use native.Mathlib.Omega.{arith}
use Rattle.points.proofs.TransitionLaws.{lost_turn, lost_end}
use Rattle.points.proofs.transitions.lost_lengths.Goals as goal

pub loop-i-init : goal.loop-i-init
loop-i-init c = (omega arith, rw sub-zero)

pub loop-i-preserved : goal.loop-i-preserved
loop-i-preserved c =
    let a = c.args in
    let l = c.loop-i in
    (omega arith, lost_turn a.t.now a.lens.now a.p a.b a.n l.i l.lost c.lost_with-lost.result (omega arith) c.lost_with-lost.ensures ∙ l.invariant.1)

pub returns : goal.returns
returns c =
    let a = c.args in
    let l = c.loop-i in
    sym (lost_end a.t.now a.lens.now a.p a.b a.n l.i l.lost (omega arith)) ∙ l.invariant.1
