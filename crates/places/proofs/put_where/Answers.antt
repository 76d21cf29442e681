use native.Mathlib.Omega.{arith}
use Prim.Native.Nat.{◌+◌}
use lib.ListN.{get_or, drop}
use Rattle.arrays.proofs.Written.{written_start, written_end}
use Rattle.places.specs.Places.{places_from}
use Rattle.places.proofs.PlaceLaws.{places_start, places_end, place_room, place_turn}
use Rattle.places.proofs.put_where.Goals as goal

pub loop-i-init : goal.loop-i-init
loop-i-init g c =
    let a = c.args in
    (c.requires.1.0, written_start 0 (places_from g.g a.base a.xs.now) _ a.out.now (places_start g.g a.base a.xs.now))

pub put_if-c-requires : goal.put_if-c-requires
put_if-c-requires g c =
    let a = c.args in
    let l = c.loop-i in
    let pre = c.requires.1.1 in
    let e = pre.0 (get_or a.xs.now l.i 0) c.f.result (c.type_inv.xs l.i).fits c.f.ensures in
    (place_room g.g a.base a.xs.now a.out.now pre.1.0 l.i l.c l.out c.loop-i-test.true l.invariant.1 c.f.result e, omega (arith, pre.1.1))

pub loop-i-preserved : goal.loop-i-preserved
loop-i-preserved g c =
    let a = c.args in
    let l = c.loop-i in
    let pre = c.requires.1.1 in
    let q = c.put_if-c in
    let e = pre.0 (get_or a.xs.now l.i 0) c.f.result (c.type_inv.xs l.i).fits c.f.ensures in
    (l.invariant.0, place_turn g.g a.base a.xs.now a.out.now pre.1.0 l.i l.c l.out c.loop-i-test.true l.invariant.1 c.f.result e q.result q.new.out q.ensures.0 q.ensures.1)

pub returns : goal.returns
returns g c =
    let a = c.args in
    let l = c.loop-i in
    let whole = places_from g.g a.base a.xs.now in
    let e = written_end 0 whole a.out.now l.c l.out (places_from g.g (a.base + l.i) (drop l.i a.xs.now)) l.invariant.1 (places_end g.g a.base a.xs.now l.i c.loop-i-test.false) in
    record { count = omega (arith, e.0); places = e.1 }
