use mathlib.Core.Path.{sym, ◌∙◌}
use native.Mathlib.Omega.{arith}
use Rattle.sequences.proofs.Turns.{complete-turn, complete-end}
use Rattle.sequences.proofs.complete.Goals as goal

pub loop-j-init : goal.loop-j-init
loop-j-init c = rw c.saturating_sub-j.ensures

pub loop-j-preserved : goal.loop-j-preserved
loop-j-preserved c =
    let l = c.loop-j in
    let a = c.args in
    complete-turn a.words.now a.at a.most l.out l.j (omega arith) (omega arith) ∙ l.invariant

pub returns : goal.returns
returns c =
    let l = c.loop-j in
    let a = c.args in
    sym (complete-end a.words.now a.at a.most l.out l.j (omega arith) (omega arith)) ∙ l.invariant
