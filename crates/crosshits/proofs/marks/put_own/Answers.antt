use mathlib.Core.Path.{refl}
use Prim.Native.Nat.{◌+◌, ◌≤◌}
use native.Mathlib.Omega.{arith}
use lib.Dec.{eqb}
use lib.ListN.{length, get_or}
use Rattle.arrays.proofs.Written.{written_start, written-turn, written_end}
use Rattle.places.proofs.PlaceLaws.{one_place}
use Rattle.crosshits.specs.Listed.{own_places}
use Rattle.crosshits.proofs.ListedLaws.{below, own_turn, own_end, own-few}
use Rattle.crosshits.proofs.marks.put_own.Goals as goal

pub loop-y-init : goal.loop-y-init
loop-y-init c =
    let a = c.args in
    let x = a.x in
    (omega arith, written_start x.at (own_places a.plan.now x.start x.first a.list.now) _ a.hits.now refl)

pub overflow_add-first : goal.overflow_add-first
overflow_add-first c =
    let a = c.args in
    let p = c.requires in
    let l = c.loop-y in
    omega (arith, p.2, below (length a.list.now) 1024 a.list.now p.3 l.y-index c.loop-y-test.true)

pub put_if-c-requires : goal.put_if-c-requires
put_if-c-requires c =
    let a = c.args in
    let p = c.requires in
    let l = c.loop-y in
    let y = get_or a.list.now l.y-index 0 in
    let b = below (length a.list.now) 1024 a.list.now p.3 l.y-index c.loop-y-test.true in
    (omega (arith, l.invariant.0, l.invariant.1.kept, p.1, one_place (eqb c.element-m.result 0) (a.x.first + y)), omega (arith, p.2, b))

pub loop-y-preserved : goal.loop-y-preserved
loop-y-preserved c =
    let a = c.args in
    let p = c.requires in
    let l = c.loop-y in
    let q = c.put_if-c in
    let x = a.x in
    let m = c.element-m in
    let xs = a.list.now in
    let y = get_or xs l.y-index 0 in
    let whole = own_places a.plan.now x.start x.first xs in
    let few : x.at + length whole ≤ length a.hits.now = omega (arith, own-few a.plan.now x.start x.first xs, p.1) in
    (omega (arith, l.invariant.0, q.ensures.0, one_place (eqb m.result 0) (x.first + y)), written-turn x.at whole a.hits.now l.c l.hits _ l.invariant.1 few _ _ (own_turn a.plan.now x.start x.first xs l.y-index m.result c.loop-y-test.true m.ensures) q.result q.new.out q.ensures.0 q.ensures.1)

pub returns : goal.returns
returns c =
    let a = c.args in
    let l = c.loop-y in
    let x = a.x in
    written_end x.at (own_places a.plan.now x.start x.first a.list.now) a.hits.now l.c l.hits _ l.invariant.1 (own_end a.plan.now x.start x.first a.list.now l.y-index c.loop-y-test.false)
