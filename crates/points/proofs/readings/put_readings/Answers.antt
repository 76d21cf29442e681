use mathlib.Core.Path.{refl, sym, ◌∙◌}
use native.Mathlib.Omega.{arith}
use native.Mathlib.Nat.{sub-zero}
use lib.ListN.{length-set}
use Rattle.points.proofs.ReadingLaws.{codes_turn, codes_end}
use Rattle.points.proofs.readings.put_readings.Goals as goal

pub loop-i-init : goal.loop-i-init
loop-i-init c = (omega arith, refl, rw sub-zero)

pub read_one-r-requires : goal.read_one-r-requires
read_one-r-requires c =
    let p = c.requires in
    let i = c.loop-i.i in
    (omega arith, omega arith, p.3.wide i (omega arith), p.3.within i (omega arith))

pub loop-i-preserved : goal.loop-i-preserved
loop-i-preserved c =
    let a = c.args in
    let l = c.loop-i in
    let r = c.read_one-r in
    (omega arith, simp length-set l.invariant.1, codes_turn a.t.now a.sample.now a.points a.n l.i r.result l.readings (omega arith) (omega arith) r.ensures ∙ l.invariant.2)

pub returns : goal.returns
returns c =
    let a = c.args in
    let l = c.loop-i in
    sym (codes_end a.t.now a.sample.now a.points a.n l.i l.readings (omega arith)) ∙ l.invariant.2
