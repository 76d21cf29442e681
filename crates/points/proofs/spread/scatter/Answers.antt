use Rattle.layout.proofs.PlaceLaws.{points-total}
use Rattle.points.proofs.spread.scatter.Goals as goal

pub scatter_each-requires : goal.scatter_each-requires
scatter_each-requires c =
    let a = c.args in
    let p = c.requires in
    record { t_value = (p.t_value.0, p.t_value.1, p.t_value.2, p.t_value.3, points-total a.t.now p.t_value.0 _ c.point_count-n.ensures.value); kinded = p.kinded }
