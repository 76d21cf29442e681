use mathlib.Core.Path.{refl, ◌∙◌}
use native.Mathlib.Omega.{arith}
use lib.ListN.{get_or, length-set}
use Rattle.lists.proofs.Fronts.{copy_turn, copy_end}
use Rattle.lists.proofs.copy.Goals as goal

pub loop-i-init : goal.loop-i-init
loop-i-init c = (omega arith, refl, refl)

pub loop-i-preserved : goal.loop-i-preserved
loop-i-preserved c =
    let a = c.args in
    let p = c.requires in
    let l = c.loop-i in
    (omega arith, length-set l.out l.i (get_or a.from.now l.i 0) ∙ l.invariant.1, copy_turn a.n l.i a.from.now l.out _ l.invariant.2 (omega arith) p.0 (omega (arith, l.invariant.1, p.1)))

pub returns : goal.returns
returns c =
    let a = c.args in
    let l = c.loop-i in
    copy_end a.n l.i a.from.now l.out _ l.invariant.2 (omega arith) c.requires.0
