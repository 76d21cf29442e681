use mathlib.Core.Path.{refl}
use Prim.Native.Nat.{◌*◌}
use native.Mathlib.Omega.{arith}
use Rattle.model.specs.Format.{table_of}
use Rattle.model.proofs.RawExact.{few_points}
use Rattle.meets.proofs.PlanLaws.{plan-at, few_covers}
use Rattle.found.proofs.HitLaws.{few_hits}
use Rattle.found.proofs.AllLaws.{origins-at, rows_of_lem, row_room, row_back}
use Rattle.found.proofs.all.find_point.Goals as goal

pub bounds_of-b-requires : goal.bounds_of-b-requires
bounds_of-b-requires c = omega (arith, few_points c.args.t.now c.requires.reading.good)

pub offset_bounds-plan-b : goal.offset_bounds-plan-b
offset_bounds-plan-b c =
    let a = c.args in
    let q = c.requires in
    let b = c.bounds_of-b.ensures in
    let o = plan-at (table_of a.t.now) a.plan.now a.lists.now a.r.point _ _ _ _ q.values_plan.0 q.reading.own b.0 b.1 b.2 refl in
    omega (arith, o.order, o.order₁, o.order₂, o.order₃)

pub slice_bounds-put_found-count-2 : goal.slice_bounds-put_found-count-2
slice_bounds-put_found-count-2 c =
    let a = c.args in
    let q = c.requires in
    let b = c.bounds_of-b.ensures in
    let o = plan-at (table_of a.t.now) a.plan.now a.lists.now a.r.point _ _ _ _ q.values_plan.0 q.reading.own b.0 b.1 b.2 refl in
    omega (arith, o.order, o.order₁, o.order₂, o.order₃)

pub slice_bounds-put_found-start-2 : goal.slice_bounds-put_found-start-2
slice_bounds-put_found-start-2 c =
    let a = c.args in
    let q = c.requires in
    let b = c.bounds_of-b.ensures in
    let o = plan-at (table_of a.t.now) a.plan.now a.lists.now a.r.point _ _ _ _ q.values_plan.0 q.reading.own b.0 b.1 b.2 refl in
    omega (arith, o.order, o.order₁, o.order₂, o.order₃)

pub slice_bounds-put_found-end-2 : goal.slice_bounds-put_found-end-2
slice_bounds-put_found-end-2 c =
    let a = c.args in
    let q = c.requires in
    let b = c.bounds_of-b.ensures in
    let o = plan-at (table_of a.t.now) a.plan.now a.lists.now a.r.point _ _ _ _ q.values_plan.0 q.reading.own b.0 b.1 b.2 refl in
    omega (arith, o.order, o.order₁, o.order₂, o.order₃)

pub offset_bounds-plan-b-2 : goal.offset_bounds-plan-b-2
offset_bounds-plan-b-2 c =
    let a = c.args in
    let q = c.requires in
    let b = c.bounds_of-b.ensures in
    let o = plan-at (table_of a.t.now) a.plan.now a.lists.now a.r.point _ _ _ _ q.values_plan.0 q.reading.own b.0 b.1 b.2 refl in
    omega (arith, o.order, o.order₁, o.order₂, o.order₃)

pub slice_bounds-put_found-count-3 : goal.slice_bounds-put_found-count-3
slice_bounds-put_found-count-3 c =
    let a = c.args in
    let q = c.requires in
    let b = c.bounds_of-b.ensures in
    let o = plan-at (table_of a.t.now) a.plan.now a.lists.now a.r.point _ _ _ _ q.values_plan.0 q.reading.own b.0 b.1 b.2 refl in
    omega (arith, o.order, o.order₁, o.order₂, o.order₃)

pub slice_bounds-put_found-start-3 : goal.slice_bounds-put_found-start-3
slice_bounds-put_found-start-3 c =
    let a = c.args in
    let q = c.requires in
    let b = c.bounds_of-b.ensures in
    let o = plan-at (table_of a.t.now) a.plan.now a.lists.now a.r.point _ _ _ _ q.values_plan.0 q.reading.own b.0 b.1 b.2 refl in
    omega (arith, o.order, o.order₁, o.order₂, o.order₃)

pub slice_bounds-put_found-end-3 : goal.slice_bounds-put_found-end-3
slice_bounds-put_found-end-3 c =
    let a = c.args in
    let q = c.requires in
    let b = c.bounds_of-b.ensures in
    let o = plan-at (table_of a.t.now) a.plan.now a.lists.now a.r.point _ _ _ _ q.values_plan.0 q.reading.own b.0 b.1 b.2 refl in
    omega (arith, o.order, o.order₁, o.order₂, o.order₃)

pub put_found-requires : goal.put_found-requires
put_found-requires c =
    let a = c.args in
    let q = c.requires in
    let b = c.bounds_of-b.ensures in
    let o = plan-at (table_of a.t.now) a.plan.now a.lists.now a.r.point _ _ _ _ q.values_plan.0 q.reading.own b.0 b.1 b.2 refl in
    let s = a.t.now in
    record { reading = q.reading; room = row_room a.r.point _ a.found.now q.reading.own q.values_plan.3; rows_of = (rows_of_lem (table_of s) a.r.point a.plan.now _ _ _ _ o, o.spans, origins-at (table_of s) a.r.point a.lists.now q.reading.own (few_covers s q.reading.good a.r.point q.reading.own) q.values_plan.2 q.values_plan.1) }

pub returns : goal.returns
returns c =
    let a = c.args in
    let q = c.requires in
    let w = c.put_found in
    row_back (257 * a.r.point) _ a.found.now w.new.found (omega (arith, few_hits a.t.now a.sample.now q.reading.good q.reading.widths a.r.point q.reading.own, q.reading.own, q.values_plan.3)) w.auto.found w.ensures
