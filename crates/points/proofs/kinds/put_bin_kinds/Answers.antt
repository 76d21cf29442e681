use mathlib.Core.Path.{refl, ap}
use native.Mathlib.Omega.{arith}
use Prim.Native.Nat.{ℕ}
use lib.ListN.{length, length-replicate}
use Rattle.model.specs.Table.{cover, ignore, illegal, default}
use Rattle.model.specs.Raw.{bin_at}
use Rattle.arrays.proofs.Written.{as_written, unwritten}
use Rattle.values.specs.Counts.{cover_count}
use Rattle.points.proofs.KindLaws.{other_bin, kind-bin}
use Rattle.points.proofs.kinds.put_bin_kinds.Goals as goal

pub returns-then-q-p : goal.returns-then-q-p
returns-then-q-p c =
    let a = c.args in
    unwritten a.cur _ a.kinds.now (other_bin a.low a.p a.t.now a.a a.r c.byte-q.result c.byte-q.ensures c.if-q-p.true)

pub put_cover_kinds-requires : goal.put_cover_kinds-requires
put_cover_kinds-requires c =
    let a = c.args in
    let p = c.requires in
    let z = kind-bin a.low a.p a.t.now a.a a.r c.byte-q.result c.byte-q.ensures c.if-q-p.false c.byte.result c.byte.ensures cover c.in-Cover.ensures in
    (p.0, p.1, p.2, omega (arith, ap length z, length-replicate {A = ℕ} (cover_count a.low (bin_at a.t.now a.a a.r).form (bin_at a.t.now a.a a.r).ranges) 0, p.3))

pub returns-in-Cover : goal.returns-in-Cover
returns-in-Cover c =
    let a = c.args in
    let q = c.put_cover_kinds in
    let z = kind-bin a.low a.p a.t.now a.a a.r c.byte-q.result c.byte-q.ensures c.if-q-p.false c.byte.result c.byte.ensures cover c.in-Cover.ensures in
    as_written a.cur q.result _ _ _ a.kinds.now q.new.kinds z (length-replicate {A = ℕ} (cover_count a.low (bin_at a.t.now a.a a.r).form (bin_at a.t.now a.a a.r).ranges) 0) q.ensures.0 q.ensures.1

pub returns-in-Ignore : goal.returns-in-Ignore
returns-in-Ignore c =
    let a = c.args in
    unwritten a.cur _ a.kinds.now (kind-bin a.low a.p a.t.now a.a a.r c.byte-q.result c.byte-q.ensures c.if-q-p.false c.byte.result c.byte.ensures ignore c.in-Ignore.ensures)

pub put_same-requires : goal.put_same-requires
put_same-requires c =
    let a = c.args in
    let z = kind-bin a.low a.p a.t.now a.a a.r c.byte-q.result c.byte-q.ensures c.if-q-p.false c.byte.result c.byte.ensures illegal c.in-Illegal.ensures in
    omega (arith, ap length z, c.requires.3)

pub returns-in-Illegal : goal.returns-in-Illegal
returns-in-Illegal c =
    let a = c.args in
    let q = c.put_same in
    let z = kind-bin a.low a.p a.t.now a.a a.r c.byte-q.result c.byte-q.ensures c.if-q-p.false c.byte.result c.byte.ensures illegal c.in-Illegal.ensures in
    as_written a.cur q.result 1 _ _ a.kinds.now q.new.xs z refl q.ensures.0 q.ensures.1

pub put_same-requires-in-Default : goal.put_same-requires-in-Default
put_same-requires-in-Default c =
    let a = c.args in
    let z = kind-bin a.low a.p a.t.now a.a a.r c.byte-q.result c.byte-q.ensures c.if-q-p.false c.byte.result c.byte.ensures default c.in-Default.ensures in
    omega (arith, ap length z, c.requires.3)

pub returns-in-Default : goal.returns-in-Default
returns-in-Default c =
    let a = c.args in
    let q = c.put_same-in-Default in
    let z = kind-bin a.low a.p a.t.now a.a a.r c.byte-q.result c.byte-q.ensures c.if-q-p.false c.byte.result c.byte.ensures default c.in-Default.ensures in
    as_written a.cur q.result 1 _ _ a.kinds.now q.new.xs z refl q.ensures.0 q.ensures.1
