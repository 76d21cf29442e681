use native.Mathlib.Omega.{arith}
use Rattle.values.proofs.PointLaws.{low_is, high_is, number_is}
use Rattle.parts.proofs.points.whole_type.Goals as goal

pub returns : goal.returns
returns c =
    let a = c.args in
    let s = a.t.now in
    let n = c.auto_count-number.ensures in
    let most = c.read2.ensures in
    let some = c.requires.2 in
    let p = c.type_at-p in
    let all = c.power-all.ensures in
    let low = c.lowest-low.ensures in
    record {
      low = low_is s a.point _ _ c.lowest-low.result c.power-all.result c.auto_count-number.result c.read2.result p.ensures.width p.ensures.signed c.lowest-low.ensures.0 c.power-all.ensures.0 c.read2.ensures c.auto_count-number.ensures;
      high = high_is s a.point _ _ c.lowest-low.result c.power-all.result c.auto_count-number.result c.read2.result p.ensures.width p.ensures.signed c.lowest-low.ensures.0 c.power-all.ensures.0 c.read2.ensures c.auto_count-number.ensures;
      number = number_is s a.point _ _ c.lowest-low.result c.power-all.result c.auto_count-number.result c.read2.result p.ensures.width p.ensures.signed c.lowest-low.ensures.0 c.power-all.ensures.0 c.read2.ensures c.auto_count-number.ensures;
      some = omega (arith, n, most, some, all.1);
      few = omega (arith, n);
      order = omega (arith, all.1);
      top = omega (arith, all.2, low.1);
    }
