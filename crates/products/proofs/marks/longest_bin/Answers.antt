use mathlib.Core.Path.{◌≡◌, ap}
use Prim.Native.Nat.{◌-◌, max}
use native.Mathlib.Omega.{arith}
use Rattle.products.specs.Marks.{longest}
use Rattle.products.proofs.Longest.{longest-none, longest_turn}
use Rattle.products.proofs.Exact.{cross_placed}
use Rattle.products.proofs.marks.longest_bin.Goals as goal

pub overflow_add-p : goal.overflow_add-p
overflow_add-p c = omega (arith, (cross_placed c.args.t.now c.args.p c.requires).near.0)

pub loop-i-init : goal.loop-i-init
loop-i-init c =
    let a = c.args in
    let n = c.byte-n.result in
    let z : n - 0 ≡ n = omega arith in
    (omega arith, omega arith, omega (arith, ap (longest a.t.now a.p.bins) z))

pub overflow_add-bin : goal.overflow_add-bin
overflow_add-bin c = omega (arith, c.loop-i.invariant.1, (cross_placed c.args.t.now c.args.p c.requires).near.1)

pub overflow_add-bin-in-loop-i : goal.overflow_add-bin-in-loop-i
overflow_add-bin-in-loop-i c = omega (arith, c.loop-i.invariant.1, (cross_placed c.args.t.now c.args.p c.requires).near.1)

pub loop-i-preserved : goal.loop-i-preserved
loop-i-preserved c =
    let a = c.args in
    let l = c.loop-i in
    let m = c.byte in
    let e : c.max-most.result ≡ max l.most m.result = c.max-most.ensures in
    (omega arith, omega (arith, l.invariant.1), omega (arith, e, l.invariant.2, longest_turn a.t.now l.bin c.byte-n.result l.i c.loop-i-test.true m.result m.ensures))

pub returns : goal.returns
returns c =
    let a = c.args in
    let l = c.loop-i in
    let n = c.byte-n in
    omega (arith, l.invariant.2, longest-none a.t.now l.bin (n.result - l.i) (omega arith), ap (longest a.t.now a.p.bins) n.ensures)
