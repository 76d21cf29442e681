use mathlib.Core.Path.{refl, ap}
use native.Mathlib.Omega.{arith}
use lib.ListN.{length}
use Rattle.arrays.proofs.Written.{as_written, unwritten}
use Rattle.points.proofs.TransitionLaws.{other_point, neither, one-of, no-counter, one-counter}
use Rattle.points.proofs.transitions.put_transition.Goals as goal

pub returns-then-q-e : goal.returns-then-q-e
returns-then-q-e c =
    let a = c.args in
    unwritten a.cur _ a.flags.now (other_point a.t.now a.sample.now a.e.point a.e.skip a.e.lost a.at a.x c.byte-q.result c.byte-q.ensures c.if-q-e.true)

pub returns-then-not-counted : goal.returns-then-not-counted
returns-then-not-counted c =
    let a = c.args in
    unwritten a.cur _ a.flags.now (no-counter a.t.now a.sample.now a.e.point a.e.skip a.e.lost a.at a.x c.byte-q.result c.byte-q.ensures c.if-q-e.false c.byte-kind.result c.byte-kind.ensures (neither c.byte-kind.result c.counted.result c.counted.ensures c.if-not-counted.true))

pub put_one-requires : goal.put_one-requires
put_one-requires c =
    let a = c.args in
    let z = one-counter a.t.now a.sample.now a.e.point a.e.skip a.e.lost a.at a.x c.byte-q.result c.byte-q.ensures c.if-q-e.false c.byte-kind.result c.byte-kind.ensures c.byte-g.result c.guard_true-y.result c.matched-h.result (one-of c.byte-kind.result c.counted.result c.counted.ensures c.if-not-counted.false) c.byte-g.ensures c.guard_true-y.ensures c.matched-h.ensures in
    omega (arith, ap length z, c.requires.1)

pub returns : goal.returns
returns c =
    let a = c.args in
    let q = c.put_one in
    let z = one-counter a.t.now a.sample.now a.e.point a.e.skip a.e.lost a.at a.x c.byte-q.result c.byte-q.ensures c.if-q-e.false c.byte-kind.result c.byte-kind.ensures c.byte-g.result c.guard_true-y.result c.matched-h.result (one-of c.byte-kind.result c.counted.result c.counted.ensures c.if-not-counted.false) c.byte-g.ensures c.guard_true-y.ensures c.matched-h.ensures in
    as_written a.cur q.result 1 _ _ a.flags.now q.new.flags z refl q.ensures.0 q.ensures.1
