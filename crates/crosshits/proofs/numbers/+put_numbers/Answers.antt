use mathlib.Core.Path.{refl, ap}
use Prim.Native.Nat.{◌+◌, ◌*◌}
use native.Mathlib.Omega.{arith}
use lib.ListN.{length, drop}
use Rattle.arrays.proofs.Written.{written_start, written-room, written-turn, written_end}
use Rattle.products.specs.Shapes.{sizes_of}
use Rattle.crosses.proofs.Laws.{one_written}
use Rattle.crosshits.specs.Numbers.{numbers_from}
use Rattle.crosshits.proofs.NumberLaws.{turn_last, left-start, left-turn, left_end, part_room, ready-next}
use Rattle.crosshits.proofs.numbers.+put_numbers.Goals as goal
use Rattle.crosshits.proofs.numbers.+put_numbers.Invariants.{left}

pub overflow_cast-list : goal.overflow_cast-list
overflow_cast-list t c = omega (arith, c.requires.0.room)

pub bounds-list-at : goal.bounds-list-at
bounds-list-at t c =
    let a = c.args in
    let pre = c.requires in
    omega (arith, ap length (turn_last a.t.now a.found.now a.s a.x pre.0.long (omega arith)), pre.1)

pub overflow_add-result : goal.overflow_add-result
overflow_add-result t c =
    let a = c.args in
    let pre = c.requires in
    omega (arith, ap length (turn_last a.t.now a.found.now a.s a.x pre.0.long (omega arith)), pre.1)

pub returns-then-s-q : goal.returns-then-s-q
returns-then-s-q t c =
    let a = c.args in
    let pre = c.requires in
    let e = turn_last a.t.now a.found.now a.s a.x pre.0.long (omega arith) in
    one_written a.x.at a.x.first _ a.list.now e (omega (arith, ap length e, pre.1))

pub inner_of-inner-requires : goal.inner_of-inner-requires
inner_of-inner-requires t c = (c.requires.0.few, omega (arith, c.requires.0.few))

pub loop-i-init : goal.loop-i-init
loop-i-init t c =
    let a = c.args in
    let pre = c.requires in
    (omega arith, written_start a.x.at _ _ a.list.now (left-start a.t.now a.found.now a.s a.x pre.0.long (omega arith) c.byte.result (257 * c.byte.result) c.inner_of-inner.result c.element-n.result c.byte.ensures refl c.inner_of-inner.ensures c.element-n.ensures))

pub overflow_mul-y : goal.overflow_mul-y
overflow_mul-y t c =
    let a = c.args in
    let pre = c.requires in
    omega (arith, (part_room a.t.now a.found.now a.s a.x pre.0.long (omega arith) c.byte.result (257 * c.byte.result) c.inner_of-inner.result c.element-n.result c.byte.ensures refl c.inner_of-inner.ensures c.element-n.ensures pre.0 c.loop-i.i c.element-d.result (omega arith) c.element-d.ensures))

pub overflow_add-y : goal.overflow_add-y
overflow_add-y t c =
    let a = c.args in
    let pre = c.requires in
    omega (arith, (part_room a.t.now a.found.now a.s a.x pre.0.long (omega arith) c.byte.result (257 * c.byte.result) c.inner_of-inner.result c.element-n.result c.byte.ensures refl c.inner_of-inner.ensures c.element-n.ensures pre.0 c.loop-i.i c.element-d.result (omega arith) c.element-d.ensures))

pub overflow_add-y-in-loop-i : goal.overflow_add-y-in-loop-i
overflow_add-y-in-loop-i t c = omega (arith, c.requires.0.near)

pub put_numbers-e-requires : goal.put_numbers-e-requires
put_numbers-e-requires t c =
    let a = c.args in
    let pre = c.requires in
    let l = c.loop-i in
    let d = c.element-d in
    let turn = (left-turn a.t.now a.found.now a.s a.x pre.0.long (omega arith) c.byte.result (257 * c.byte.result) c.inner_of-inner.result c.element-n.result c.byte.ensures refl c.inner_of-inner.ensures c.element-n.ensures l.i d.result (omega arith) d.ensures) in
    let ready = (ready-next a.t.now a.found.now a.s a.x pre.0.long (omega arith) c.byte.result (257 * c.byte.result) c.inner_of-inner.result c.element-n.result c.byte.ensures refl c.inner_of-inner.ensures c.element-n.ensures pre.0 l.i d.result (omega arith) d.ensures l.e) in
    (omega (arith, c.decreases), (ready, written-room a.x.at _ a.list.now l.e l.list _ l.invariant.1 pre.1 (numbers_from a.t.now a.found.now (a.x.point + 1) (a.x.first + d.result * c.inner_of-inner.result) (drop (a.x.q + 1) (sizes_of a.s))) (left a.t.now a.found.now (drop (a.x.q + 1) (sizes_of a.s)) a.x.first a.x.point c.inner_of-inner.result (257 * c.byte.result) c.element-n.result (l.i + 1)) turn))

pub loop-i-preserved : goal.loop-i-preserved
loop-i-preserved t c =
    let a = c.args in
    let pre = c.requires in
    let l = c.loop-i in
    let d = c.element-d in
    let q = c.put_numbers-e in
    let turn = (left-turn a.t.now a.found.now a.s a.x pre.0.long (omega arith) c.byte.result (257 * c.byte.result) c.inner_of-inner.result c.element-n.result c.byte.ensures refl c.inner_of-inner.ensures c.element-n.ensures l.i d.result (omega arith) d.ensures) in
    (omega arith, written-turn a.x.at _ a.list.now l.e l.list _ l.invariant.1 pre.1 _ _ turn q.result q.new.list q.ensures.0 q.ensures.1)

pub returns : goal.returns
returns t c =
    let a = c.args in
    let pre = c.requires in
    let l = c.loop-i in
    written_end a.x.at _ a.list.now l.e l.list _ l.invariant.1 (left_end a.t.now a.found.now a.s a.x pre.0.long (omega arith) c.byte.result (257 * c.byte.result) c.inner_of-inner.result c.element-n.result c.byte.ensures refl c.inner_of-inner.ensures c.element-n.ensures l.i (omega arith))
