use Rattle.layout.proofs.PlaceLaws.{points-total}
use Rattle.points.proofs.items.put_point_items.Goals as goal

pub put_each-requires : goal.put_each-requires
put_each-requires c =
    let a = c.args in
    let p = c.requires in
    (p.0, p.1, p.2, p.3, points-total a.t.now p.0 _ c.point_count-n.ensures.value)
