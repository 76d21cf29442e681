use native.Mathlib.Omega.{arith}
use Rattle.model.specs.Format.{table_of}
use Rattle.layout.proofs.PlaceLaws.{points-total}
use Rattle.engine.proofs.EngineLaws.{counts_at_lem, counts_part, marks_part}
use Rattle.engine.proofs.put_crossed.Goals as goal

pub slice_bounds-put_cross_hits-count : goal.slice_bounds-put_cross_hits-count
slice_bounds-put_cross_hits-count c =
    let a = c.args in
    let p = c.requires in
    let s = a.t.now in
    let lay = c.point_count-n in
    let n = points-total s p.t_value.0 lay.result lay.ensures.value in
    omega (arith, p.t_value.4, counts_at_lem (table_of s) a.lists.now p.t_value.2 p.t_value.4 lay.result n c.element-c.result c.element-c.ensures)

pub slice_bounds-put_cross_hits-start : goal.slice_bounds-put_cross_hits-start
slice_bounds-put_cross_hits-start c =
    let a = c.args in
    let p = c.requires in
    let s = a.t.now in
    let lay = c.point_count-n in
    let n = points-total s p.t_value.0 lay.result lay.ensures.value in
    omega (arith, p.t_value.4, counts_at_lem (table_of s) a.lists.now p.t_value.2 p.t_value.4 lay.result n c.element-c.result c.element-c.ensures)

pub put_cross_hits-requires : goal.put_cross_hits-requires
put_cross_hits-requires c =
    let a = c.args in
    let p = c.requires in
    let s = a.t.now in
    let lay = c.point_count-n in
    let n = points-total s p.t_value.0 lay.result lay.ensures.value in
    let q = c.element-c in
    let e = counts_at_lem (table_of s) a.lists.now p.t_value.2 p.t_value.4 lay.result n q.result q.ensures in
    record { t_value = (p.t_value.0, p.t_value.1, counts_part (table_of s) a.lists.now p.t_value.2 p.t_value.4 lay.result n _ e, marks_part (table_of s) a.lists.now p.t_value.2 p.t_value.4 lay.result n _ e p.t_value.3); base_value = (p.base_value.0, p.base_value.1) }
