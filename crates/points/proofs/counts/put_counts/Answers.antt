use Rattle.layout.proofs.PlaceLaws.{points-total}
use Rattle.points.proofs.counts.put_counts.Goals as goal

pub put_each-requires : goal.put_each-requires
put_each-requires c =
    let a = c.args in
    let p = c.requires in
    record { t_value = p.t_value; starts_value = (p.starts_value, points-total a.t.now p.t_value.0 _ c.point_count-n.ensures.value) }
