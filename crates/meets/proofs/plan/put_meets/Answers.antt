use mathlib.Core.Path.{refl}
use native.Mathlib.Omega.{arith}
use Rattle.model.specs.Format.{table_of}
use Rattle.model.proofs.RawExact.{few_points}
use Rattle.meets.proofs.PlanLaws.{plan-at, plan-parts, plan_asked}
use Rattle.meets.proofs.plan.put_meets.Goals as goal

pub overflow_mul-p : goal.overflow_mul-p
overflow_mul-p c = omega (arith, few_points c.args.plan.table.now c.requires.t_value.0)

pub overflow_add-p : goal.overflow_add-p
overflow_add-p c = omega (arith, few_points c.args.plan.table.now c.requires.t_value.0)

pub overflow_mul-p-2 : goal.overflow_mul-p-2
overflow_mul-p-2 c = omega (arith, few_points c.args.plan.table.now c.requires.t_value.0)

pub overflow_add-p-2 : goal.overflow_add-p-2
overflow_add-p-2 c = omega (arith, few_points c.args.plan.table.now c.requires.t_value.0)

pub overflow_mul-p-3 : goal.overflow_mul-p-3
overflow_mul-p-3 c = omega (arith, few_points c.args.plan.table.now c.requires.t_value.0)

pub overflow_add-p-3 : goal.overflow_add-p-3
overflow_add-p-3 c = omega (arith, few_points c.args.plan.table.now c.requires.t_value.0)

pub slice_bounds-put_met-count : goal.slice_bounds-put_met-count
slice_bounds-put_met-count c =
    let a = c.args in
    let q = c.requires in
    let o = plan-at (table_of a.plan.table.now) a.plan.words.now a.plan.lists.now a.q.point _ _ _ _ q.t_value.2 q.t_value.1 refl c.element-from.ensures c.element-mid.ensures c.element-to.ensures in
    omega (arith, o.order₂)

pub slice_bounds-put_met-start : goal.slice_bounds-put_met-start
slice_bounds-put_met-start c =
    let a = c.args in
    let q = c.requires in
    let o = plan-at (table_of a.plan.table.now) a.plan.words.now a.plan.lists.now a.q.point _ _ _ _ q.t_value.2 q.t_value.1 refl c.element-from.ensures c.element-mid.ensures c.element-to.ensures in
    omega (arith, o.order₂, o.order₃)

pub slice_bounds-put_met-end : goal.slice_bounds-put_met-end
slice_bounds-put_met-end c =
    let a = c.args in
    let q = c.requires in
    let o = plan-at (table_of a.plan.table.now) a.plan.words.now a.plan.lists.now a.q.point _ _ _ _ q.t_value.2 q.t_value.1 refl c.element-from.ensures c.element-mid.ensures c.element-to.ensures in
    omega (arith, o.order₂, o.order₃)

pub slice_bounds-put_met-count-2 : goal.slice_bounds-put_met-count-2
slice_bounds-put_met-count-2 c =
    let a = c.args in
    let q = c.requires in
    let o = plan-at (table_of a.plan.table.now) a.plan.words.now a.plan.lists.now a.q.point _ _ _ _ q.t_value.2 q.t_value.1 refl c.element-from.ensures c.element-mid.ensures c.element-to.ensures in
    omega (arith, o.order₁)

pub slice_bounds-put_met-start-2 : goal.slice_bounds-put_met-start-2
slice_bounds-put_met-start-2 c =
    let a = c.args in
    let q = c.requires in
    let o = plan-at (table_of a.plan.table.now) a.plan.words.now a.plan.lists.now a.q.point _ _ _ _ q.t_value.2 q.t_value.1 refl c.element-from.ensures c.element-mid.ensures c.element-to.ensures in
    omega (arith, o.order₁, o.order₂, o.order₃)

pub slice_bounds-put_met-end-2 : goal.slice_bounds-put_met-end-2
slice_bounds-put_met-end-2 c =
    let a = c.args in
    let q = c.requires in
    let o = plan-at (table_of a.plan.table.now) a.plan.words.now a.plan.lists.now a.q.point _ _ _ _ q.t_value.2 q.t_value.1 refl c.element-from.ensures c.element-mid.ensures c.element-to.ensures in
    omega (arith, o.order₁, o.order₂, o.order₃)

pub put_met-requires : goal.put_met-requires
put_met-requires c =
    let a = c.args in
    let q = c.requires in
    let o = plan-at (table_of a.plan.table.now) a.plan.words.now a.plan.lists.now a.q.point _ _ _ _ q.t_value.2 q.t_value.1 refl c.element-from.ensures c.element-mid.ensures c.element-to.ensures in
    record { parts_in_bounds = (q.parts_value.1, plan-parts (table_of a.plan.table.now) a.q.point a.plan.words.now _ _ _ _ _ o q.parts_value.0); spans_value = o.spans.gaps }

pub returns : goal.returns
returns c =
    let a = c.args in
    let q = c.requires in
    let o = plan-at (table_of a.plan.table.now) a.plan.words.now a.plan.lists.now a.q.point _ _ _ _ q.t_value.2 q.t_value.1 refl c.element-from.ensures c.element-mid.ensures c.element-to.ensures in
    let b = c.limits_of-l.ensures in
    c.put_met.ensures (table_of a.plan.table.now) a.q.point (plan_asked (table_of a.plan.table.now) a.q.point a.plan.words.now _ _ _ _ _ _ _ _ o b.0 q.parts_value.2 q.parts_value.3 q.parts_value.0)
