use mathlib.Core.Path.{sym, ◌∙◌}
use native.Mathlib.Omega.{arith}
use lib.Seq.{length-take-le}
use Rattle.pieces.proofs.build.put_point.Goals as goal

pub put_rows-b-requires : goal.put_rows-b-requires
put_rows-b-requires c =
    let q = c.requires in
    let o = q.t_value.3 in
    record { t_value = (q.t_value.0, q.t_value.1, omega (arith, q.t_value.2), q.point_in_bounds.0, q.point_in_bounds.1); own_part = (o.part, o.near, o.near_ranges, o.few) }

pub put_excluded-k-requires : goal.put_excluded-k-requires
put_excluded-k-requires c =
    let q = c.requires in
    let k = c.put_rows-b.auto in
    let o = q.t_value.3 in
    record { t_value = (q.t_value.0, q.t_value.1, omega (arith, k.sorted, q.point_in_bounds.0), omega (arith, k.sorted, k.own, q.point_in_bounds.1)); own_part = (o.part, o.near, o.near_ranges, o.few) }

pub slice_bounds-put_by_rows-end-2 : goal.slice_bounds-put_by_rows-end-2
slice_bounds-put_by_rows-end-2 c =
    let x = c.put_excluded-k in
    sym (length-take-le x.result x.new.out (omega (arith, x.auto.out, x.ensures.2)))

pub put_by_rows-requires : goal.put_by_rows-requires
put_by_rows-requires c =
    let q = c.requires in
    let x = c.put_excluded-k in
    let r = c.put_rows-b in
    let k = length-take-le x.result x.new.out (omega (arith, x.auto.out, x.ensures.2)) in
    record { t_value = (q.t_value.0, q.t_value.1, r.ensures.0, r.ensures.1, r.ensures.2); spans_of = (x.ensures.0, omega (arith, k, x.ensures.1), omega (arith, q.t_value.2, r.auto.out)) }

pub returns : goal.returns
returns c =
    let e = c.put_by_rows.ensures in
    (e.0, e.1 ∙ c.put_rows-b.ensures.3, e.2)
