use mathlib.Core.Path.{ap}
use native.Mathlib.Omega.{arith}
use lib.ListN.{length}
use Rattle.words.proofs.KindLaws.{cover-byte, illegal-byte, no_cover-byte, no_illegal-byte}
use Rattle.arrays.proofs.Written.{unwritten}
use Rattle.crosses.proofs.Laws.{label_cover, label-illegal, label-none, one_written}
use Rattle.crosses.proofs.bins.put_label.Goals as goal

pub returns-in-Cover : goal.returns-in-Cover
returns-in-Cover c =
    let a = c.args in
    let e = label_cover a.cover a.illegal a.kind (cover-byte c.from.result a.kind c.from.ensures c.in-Cover.is) in
    one_written a.cur a.cover _ a.out.now e (omega (arith, ap length e))

pub returns-in-Illegal : goal.returns-in-Illegal
returns-in-Illegal c =
    let a = c.args in
    let e = label-illegal a.cover a.illegal a.kind (illegal-byte c.from.result a.kind c.from.ensures c.in-Illegal.is) in
    one_written a.cur a.illegal _ a.out.now e (omega (arith, ap length e))

pub returns-in_default : goal.returns-in_default
returns-in_default c =
    let a = c.args in
    let k = c.from in
    let d = c.in_default in
    unwritten a.cur _ a.out.now (label-none a.cover a.illegal a.kind (no_cover-byte k.result a.kind k.ensures d.not-Cover) (no_illegal-byte k.result a.kind k.ensures d.not-Illegal))
