use native.Mathlib.Omega.{arith}
use Rattle.crosses.proofs.Laws.{own-none, own_back, own_done}
use Rattle.crosses.proofs.own.own_marks.Goals as goal

pub loop-i-init : goal.loop-i-init
loop-i-init c = let a = c.args in (omega arith, own-none a.mask a.n a.hits.now a.marks.now)

pub loop-i-preserved : goal.loop-i-preserved
loop-i-preserved c =
    let a = c.args in
    let l = c.loop-i in
    (omega arith, own_back a.mask a.n l.i c.own_mark-own.result l.own a.hits.now a.marks.now (omega arith) (omega arith) (omega arith) (omega arith) c.own_mark-own.ensures l.invariant.1)

pub returns : goal.returns
returns c = let a = c.args in let l = c.loop-i in own_done a.mask a.n l.i l.own a.hits.now a.marks.now (omega arith) l.invariant.1
