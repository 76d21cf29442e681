use mathlib.Core.Path.{refl, ap}
use native.Mathlib.Omega.{arith}
use lib.ListN.{length}
use Rattle.model.specs.Table.{cover, illegal}
use Rattle.words.proofs.KindLaws.{no_cover-byte, no_illegal-byte}
use Rattle.arrays.proofs.Written.{as_written, unwritten}
use Rattle.points.proofs.KindLaws.{other_transition, kind-transition, ignore-transition}
use Rattle.points.proofs.kinds.put_transition_kind.Goals as goal

pub returns-then-q-p : goal.returns-then-q-p
returns-then-q-p c =
    let a = c.args in
    unwritten a.cur _ a.kinds.now (other_transition a.t.now a.p a.at c.byte-q.result c.byte-q.ensures c.if-q-p.true)

pub put_same-requires : goal.put_same-requires
put_same-requires c =
    let a = c.args in
    omega (arith, ap length (kind-transition a.t.now a.p a.at c.byte-q.result c.byte-q.ensures c.if-q-p.false c.byte.result c.byte.ensures cover c.in-Cover.ensures), c.requires.1)

pub returns-in-Cover : goal.returns-in-Cover
returns-in-Cover c =
    let a = c.args in
    let q = c.put_same in
    as_written a.cur q.result 1 _ _ a.kinds.now q.new.xs (kind-transition a.t.now a.p a.at c.byte-q.result c.byte-q.ensures c.if-q-p.false c.byte.result c.byte.ensures cover c.in-Cover.ensures) refl q.ensures.0 q.ensures.1

pub put_same-requires-in-Illegal : goal.put_same-requires-in-Illegal
put_same-requires-in-Illegal c =
    let a = c.args in
    omega (arith, ap length (kind-transition a.t.now a.p a.at c.byte-q.result c.byte-q.ensures c.if-q-p.false c.byte.result c.byte.ensures illegal c.in-Illegal.ensures), c.requires.1)

pub returns-in-Illegal : goal.returns-in-Illegal
returns-in-Illegal c =
    let a = c.args in
    let q = c.put_same-in-Illegal in
    as_written a.cur q.result 1 _ _ a.kinds.now q.new.xs (kind-transition a.t.now a.p a.at c.byte-q.result c.byte-q.ensures c.if-q-p.false c.byte.result c.byte.ensures illegal c.in-Illegal.ensures) refl q.ensures.0 q.ensures.1

pub returns-in_default : goal.returns-in_default
returns-in_default c =
    let a = c.args in
    let k = c.from in
    let d = c.in_default in
    unwritten a.cur _ a.kinds.now (ignore-transition a.t.now a.p a.at c.byte-q.result c.byte-q.ensures c.if-q-p.false c.byte.result c.byte.ensures (no_cover-byte k.result c.byte.result k.ensures d.not-Cover) (no_illegal-byte k.result c.byte.result k.ensures d.not-Illegal))
