use Prim.Native.Nat.{◌+◌}
use native.Mathlib.Omega.{arith}
use lib.ListN.{get_or, set, length-set}
use Rattle.samples.proofs.RaiseLaws.{raisable_first, raised-flags, unknowns_room}
use Rattle.samples.proofs.CountLaws.{all-raised}
use Rattle.samples.proofs.counts.raise_counts.Goals as goal

pub raise_each-requires : goal.raise_each-requires
raise_each-requires c =
    let a = c.args in
    let p = c.requires in
    raisable_first a.counters a.points a.register.now p.0 _ a.hits.now p.2 p.3

pub add_unknowns-requires : goal.add_unknowns-requires
add_unknowns-requires c =
    let a = c.args in
    let p = c.requires in
    let q = c.raise_each in
    (omega (arith, q.auto.register, p.0.there, length-set a.register.now 1 (get_or a.register.now 1 0 + 1)), p.1, unknowns_room a.counters a.points a.register.now p.0 _ a.hits.now q.new.register p.3 q.ensures)

pub returns : goal.returns
returns c =
    let a = c.args in
    let p = c.requires in
    let q = c.raise_each in
    let u = c.add_unknowns in
    λ fs e xs.
    all-raised a.counters a.points fs a.readings.now a.register.now p.0 (omega arith) p.1 q.new.register
    (raised-flags a.counters fs a.hits.now (set a.register.now 1 (get_or a.register.now 1 0 + 1)) q.new.register (simp length-set (omega (arith, p.0.there))) e xs q.ensures) u.new.register u.ensures
