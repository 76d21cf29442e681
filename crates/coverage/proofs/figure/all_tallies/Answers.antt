use native.Mathlib.Omega.{arith}
use Rattle.layout.proofs.PlaceLaws.{points-total}
use Rattle.sampling.proofs.Joins.{gate-room, both-within, largest-room}
use Rattle.coverage.proofs.figure.all_tallies.Goals as goal

pub tallies_with-requires : goal.tallies_with-requires
tallies_with-requires c =
    let a = c.args in
    let p = c.requires in
    let n = c.point_count-points in
    let h = both-within a.counters 1024 n.result 4 c.if-counters-points.true in
    (p.0, p.1, (omega (arith, points-total a.t.now p.0 n.result n.ensures.value, h.1), omega (arith, p.2, h.0)), omega arith)

pub tallies_with-requires-then-counters-le4096 : goal.tallies_with-requires-then-counters-le4096
tallies_with-requires-then-counters-le4096 c =
    let p = c.requires in
    (p.0, p.1, (gate-room _ p.0, omega (arith, p.2, c.if-counters-le4096.true)), omega arith)

pub tallies_with-requires-2 : goal.tallies_with-requires-2
tallies_with-requires-2 c =
    let p = c.requires in
    (p.0, p.1, largest-room _ p.0, omega arith)
