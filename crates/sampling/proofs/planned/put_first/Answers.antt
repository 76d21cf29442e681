use mathlib.Core.Path.{sym, ◌∙◌}
use Prim.Native.Nat.{◌*◌}
use native.Mathlib.Omega.{arith}
use lib.ListN.{drop}
use lib.Seq.{length-take-le}
use Rattle.model.specs.Format.{table_of}
use Rattle.model.specs.Register.{point_total}
use Rattle.sampling.proofs.PlanLists.{part_room, lists_values, lists_origins}
use Rattle.sampling.proofs.planned.put_first.Goals as goal

pub slice_bounds-put_plan-end-2 : goal.slice_bounds-put_plan-end-2
slice_bounds-put_plan-end-2 c = sym (length-take-le 64 c.args.lists.now (omega (arith, c.requires.2)))

pub put_plan-requires : goal.put_plan-requires
put_plan-requires c =
    let p = c.requires in
    (p.0, p.1, omega (arith, length-take-le 64 c.args.lists.now (omega (arith, p.2))), c.own_parts-parts.ensures)

pub put_origins-requires : goal.put_origins-requires
put_origins-requires c =
    let a = c.args in
    let p = c.requires in
    let v = c.put_plan in
    let sized = v.ensures.2 ∙ length-take-le 64 a.lists.now (omega (arith, p.2)) in
    (p.0, part_room a.lists.now v.new.bounds (256 * point_total (table_of a.t.now)) p.2 sized, c.own_parts-parts.ensures)

pub returns : goal.returns
returns c =
    let a = c.args in
    let p = c.requires in
    let v = c.put_plan in
    let o = c.put_origins in
    let rest = drop 64 a.lists.now in
    let sized = v.ensures.2 ∙ length-take-le 64 a.lists.now (omega (arith, p.2)) in
    (lists_values v.new.bounds rest o.new.origins sized a.t.now p.0 v.new.plan v.ensures.0, lists_origins v.new.bounds rest o.new.origins sized a.t.now o.ensures.0)
