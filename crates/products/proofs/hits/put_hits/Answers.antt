use mathlib.Core.Path.{refl, ◌∙◌}
use Prim.Native.Nat.{◌+◌}
use native.Mathlib.Omega.{arith}
use Rattle.products.specs.Shapes.{sizes_of}
use Rattle.products.proofs.Gates.{open-start, open_turn, open_end}
use Rattle.products.proofs.Exact.{cross_placed, sizes-long, hits-are}
use Rattle.products.proofs.hits.put_hits.Goals as goal

pub overflow_add-at : goal.overflow_add-at
overflow_add-at c = omega (arith, (cross_placed c.args.t.now c.args.p c.requires.0).near.0)

pub put_same-requires : goal.put_same-requires
put_same-requires c = omega (arith, c.requires.1.whole.small, c.requires.2)

pub loop-q-init : goal.loop-q-init
loop-q-init c =
    let a = c.args in
    (omega arith, refl, open-start a.t.now a.gate.now (a.p.cross + 1) (sizes_of a.s) a.s.total a.stack.now _ c.put_same.ensures.1)

pub and_gate-requires : goal.and_gate-requires
and_gate-requires c =
    let a = c.args in
    let pre = c.requires in
    (omega (arith, (cross_placed a.t.now a.p pre.0).near.0), omega (arith, pre.1.whole.few), pre.1.whole, omega (arith, pre.2, c.loop-q.invariant.1))

pub loop-q-preserved : goal.loop-q-preserved
loop-q-preserved c =
    let a = c.args in
    let pre = c.requires in
    let l = c.loop-q in
    let long = sizes-long a.t.now a.p pre.0 a.s pre.1 in
    (omega arith, c.and_gate.auto.stack ∙ l.invariant.1, open_turn a.t.now a.gate.now (a.p.cross + 1) (sizes_of a.s) a.s.total l.q l.stack l.invariant.2 (omega (arith, long)) _ c.and_gate.ensures)

pub returns : goal.returns
returns c =
    let a = c.args in
    let pre = c.requires in
    let l = c.loop-q in
    let long = sizes-long a.t.now a.p pre.0 a.s pre.1 in
    λ f tells. hits-are a.t.now a.p pre.0 a.s pre.1 a.gate.now f tells l.stack (omega (arith, pre.1.whole.small, pre.2, l.invariant.1))
    (open_end a.t.now a.gate.now (a.p.cross + 1) (sizes_of a.s) a.s.total l.q l.stack l.invariant.2 (omega (arith, long)))
