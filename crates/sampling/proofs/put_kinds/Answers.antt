use native.Mathlib.Omega.{arith}
use Rattle.model.specs.Format.{table_of}
use Rattle.layout.proofs.PlaceLaws.{points-total}
use Rattle.sampling.proofs.Joins.{all-count, kinds_stand, starts_stand, counts_stand, kinds_joined}
use Rattle.sampling.proofs.put_kinds.Goals as goal

pub put_counts-requires : goal.put_counts-requires
put_counts-requires c =
    let k = c.put_point_kinds-n in
    let s = c.args.t.now in
    record { t_value = (c.requires.0, omega arith, omega arith, kinds_stand s _ k.new.kinds c.requires.0 k.ensures.kinds_after.0 (omega (arith, all-count (table_of s), c.requires.1.1))); starts_value = starts_stand s _ k.new.starts c.requires.0 k.ensures.kinds_after.1 (omega arith) }

pub put_cross_kinds-m-requires : goal.put_cross_kinds-m-requires
put_cross_kinds-m-requires c =
    let k = c.put_counts in
    let p = c.put_point_kinds-n in
    let s = c.args.t.now in
    (c.requires.0, counts_stand s _ k.new.counts c.requires.0 k.ensures (omega arith), omega (arith, all-count (table_of s), c.requires.1.1, p.ensures.value, p.auto.kinds))

pub returns : goal.returns
returns c =
    let p = c.put_point_kinds-n in
    let k = c.put_counts in
    let x = c.put_cross_kinds-m in
    let s = c.args.t.now in
    let t = table_of s in (
      record {
        starts = starts_stand s _ p.new.starts c.requires.0 p.ensures.kinds_after.1 (omega arith);
        counts = counts_stand s _ k.new.counts c.requires.0 k.ensures (omega arith);
        starts_sized = omega (arith, p.auto.starts);
        counts_sized = omega (arith, k.auto.counts);
        points = points-total s c.requires.0 _ c.point_count.ensures.value;
        counters = omega (arith, x.ensures.value, p.ensures.value, all-count t);
      },
      kinds_joined t _ p.ensures.value c.args.kinds.now p.new.kinds x.new.kinds (omega (arith, all-count t, c.requires.1.1, p.ensures.value)) p.ensures.kinds_after.0 x.ensures.kinds_after,
    )
