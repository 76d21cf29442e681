use native.Mathlib.Omega.{arith}
use Rattle.crosshits.proofs.NumberLaws.{total_none, total_turn, total_all, factors-none, factors-turn}
use Rattle.crosshits.proofs.numbers.hit_count.Goals as goal

pub loop-i-init : goal.loop-i-init
loop-i-init c = let a = c.args in (omega arith, total_none a.t.now a.found.now a.point a.n, factors-none a.n)

pub overflow_mul-total : goal.overflow_mul-total
overflow_mul-total c =
    let l = c.loop-i in
    let n = c.args.n in
    let x = c.element.result in
    omega (arith, factors-turn n l.i x l.total (omega arith) (omega arith) (omega arith) (omega arith) l.invariant.2)

pub loop-i-preserved : goal.loop-i-preserved
loop-i-preserved c =
    let a = c.args in
    let l = c.loop-i in
    let p = c.byte-p in
    let x = c.element in
    let more = factors-turn a.n l.i x.result l.total (omega arith) (omega arith) (omega arith) (omega arith) l.invariant.2 in
    (omega arith, total_turn a.t.now a.found.now a.point a.n l.i p.result x.result l.total (omega arith) l.invariant.0 p.ensures x.ensures l.invariant.1, more.0)

pub returns : goal.returns
returns c =
    let a = c.args in
    let l = c.loop-i in
    total_all a.t.now a.found.now a.point a.n l.i l.total (omega arith) l.invariant.1
