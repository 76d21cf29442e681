-- `sampling::put_totals` meets its contract. Assumes nothing.
use native.Mathlib.Omega.{arith}
use Rattle.model.specs.Format.{table_of}
use Rattle.crosses.proofs.MarkLaws.{marks_counters, marks_few}
use Rattle.sampling.proofs.Joins.{all-count, gate-room, both-within}
use Rattle.sampling.proofs.put_totals.Goals as goal

pub totals_with-requires : goal.totals_with-requires
totals_with-requires c =
    let p = c.requires in
    let t = table_of c.args.t.now in
    let h = both-within c.args.x.counters 1024 c.args.x.points 4 c.if-x.true in
    (p.0, p.1, p.2, p.3, omega (arith, p.2.points, h.1), omega (arith, marks_counters t, all-count t, p.2.counters, h.0), omega arith, omega arith)

pub totals_with-requires-then-x-le4096 : goal.totals_with-requires-then-x-le4096
totals_with-requires-then-x-le4096 c =
    let p = c.requires in
    let t = table_of c.args.t.now in
    (p.0, p.1, p.2, p.3, gate-room _ p.0, omega (arith, marks_counters t, all-count t, p.2.counters, c.if-x-le4096.true), omega arith, omega arith)

pub totals_with-requires-2 : goal.totals_with-requires-2
totals_with-requires-2 c =
    let p = c.requires in
    (p.0, p.1, p.2, p.3, omega (arith, gate-room _ p.0), omega (arith, marks_few _ p.0), omega arith, omega arith)
