use mathlib.Core.Path.{sym, ap, ◌∙◌}
use native.Mathlib.Omega.{arith}
use lib.ListN.{length}
use Rattle.model.specs.Lists.{all}
use Rattle.spans.specs.Collected.{fits_from}
use Rattle.spans.proofs.CollectLaws.{length-ranges, taken_yes, taken_no, bin-put, bin-not}
use Rattle.spans.proofs.collects.put_bin.Goals as goal

pub put_ranges-requires : goal.put_ranges-requires
put_ranges-requires c =
    let a = c.args in
    let n = c.read2-n in
    let e = taken_yes a.t.now a.b a.r a.p _ c.takes.ensures n.result c.if-takes.true n.ensures in
    (omega arith, omega arith, omega (arith, c.requires.2, ap length e, length-ranges a.t.now a.r n.result), ap (all (fits_from a.low)) (sym e) ∙ c.requires.3)

pub returns-then-takes : goal.returns-then-takes
returns-then-takes c =
    let a = c.args in
    let n = c.read2-n in
    let e = taken_yes a.t.now a.b a.r a.p _ c.takes.ensures n.result c.if-takes.true n.ensures in
    bin-put a.low a.at n.result _ _ _ a.out.now _ e (length-ranges a.t.now a.r n.result) c.put_ranges.ensures.0 c.put_ranges.ensures.1

pub returns-else-takes : goal.returns-else-takes
returns-else-takes c =
    let a = c.args in
    bin-not a.low a.at _ a.out.now (taken_no a.t.now a.b a.r a.p _ c.takes.ensures c.if-takes.false)
