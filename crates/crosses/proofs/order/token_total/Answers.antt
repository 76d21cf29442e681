use mathlib.Core.Path.{◌∙◌}
use native.Mathlib.Omega.{arith}
use Rattle.crosses.proofs.Laws.{tokens_start, tokens_turn, tokens_end}
use Rattle.crosses.proofs.order.token_total.Goals as goal

pub loop-i-init : goal.loop-i-init
loop-i-init c = let a = c.args in (omega arith, omega arith, tokens_start a.t.now a.b a.n)

pub loop-i-preserved : goal.loop-i-preserved
loop-i-preserved c =
    let a = c.args in
    let l = c.loop-i in
    (omega arith, omega arith, l.invariant.2 ∙ tokens_turn a.t.now a.b a.n l.i c.byte-k.result l.sum (omega arith) c.byte-k.ensures)

pub returns : goal.returns
returns c =
    let a = c.args in
    let l = c.loop-i in
    (omega (arith, l.invariant.2, tokens_end a.t.now a.b a.n l.i l.sum (omega arith)), omega arith)
