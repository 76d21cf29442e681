use native.Mathlib.Omega.{arith}
use Rattle.model.specs.Format.{point_record}
use Rattle.values.proofs.PointLaws.{auto-number, no_autos, some_autos}
use Rattle.values.proofs.points.auto_total.Goals as goal

pub returns-then-not-has : goal.returns-then-not-has
returns-then-not-has c =
    let a = c.args in
    (no_autos a.has (point_record a.t.now a.point) 0 (c.if-not-has.true), omega arith)

pub returns : goal.returns
returns c =
    let a = c.args in
    let s = a.t.now in
    let w = c.byte in
    let x = c.power in
    let m = c.read2 in
    let n = c.auto_count in
    (some_autos a.has (point_record s a.point) n.result (c.if-not-has.false) (auto-number s a.point w.result x.result m.result n.result w.ensures x.ensures.0 m.ensures n.ensures), omega arith)
