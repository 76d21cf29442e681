use native.Mathlib.Omega.{arith}
use Rattle.model.specs.Format.{table_of}
use Rattle.sampling.proofs.Joins.{all-count, items_joined}
use Rattle.sampling.proofs.put_items.Goals as goal

pub put_point_items-n-requires : goal.put_point_items-n-requires
put_point_items-n-requires c =
    (c.requires.0, c.requires.1.0, omega (arith, c.requires.2.starts_sized), c.requires.2.starts)

pub put_cross_items-requires : goal.put_cross_items-requires
put_cross_items-requires c =
    let p = c.put_point_items-n in
    (c.requires.0, c.requires.2.counts, omega (arith, all-count (table_of c.args.t.now), c.requires.1.1, p.ensures.value, p.auto.items))

pub returns : goal.returns
returns c =
    let p = c.put_point_items-n in
    let x = c.put_cross_items in
    let t = table_of c.args.t.now in
    items_joined t _ p.ensures.value c.args.items.now p.new.items x.new.items (omega (arith, all-count t, c.requires.1.1, p.ensures.value)) p.ensures.after x.ensures.after
