use mathlib.Core.Path.{sym, ap, ◌∙◌}
use Prim.Native.Nat.{◌+◌, ◌*◌}
use native.Mathlib.Omega.{arith}
use Rattle.model.specs.Values.{lowest, highest}
use Rattle.model.specs.Format.{point_record}
use Rattle.model.proofs.RawExact.{few_points}
use Rattle.meets.proofs.PlanLaws.{point_is, wide_at, high_is, low-bound}
use Rattle.meets.proofs.plan.limits_of.Goals as goal

pub overflow_mul-point : goal.overflow_mul-point
overflow_mul-point c = omega (arith, few_points c.args.t.now c.requires.0)

pub overflow_add-point : goal.overflow_add-point
overflow_add-point c = omega (arith, few_points c.args.t.now c.requires.0)

pub lowest_at-low-requires : goal.lowest_at-low-requires
lowest_at-low-requires c =
    let a = c.args in
    let q = c.requires in
    (omega (arith, few_points a.t.now q.0), wide_at a.t.now q.0 a.p q.1)

pub power-all-requires : goal.power-all-requires
power-all-requires c =
    let a = c.args in
    let q = c.requires in
    omega (arith, c.byte.ensures, (wide_at a.t.now q.0 a.p q.1).high)

pub overflow_add-result : goal.overflow_add-result
overflow_add-result c = omega (arith, c.lowest_at-low.ensures, low-bound (point_record c.args.t.now (2 + 11 * c.args.p)), c.power-all.ensures.2)

pub returns : goal.returns
returns c =
    let a = c.args in
    let q = c.requires in
    let x = c.lowest_at-low.ensures in
    let y = c.power-all.ensures in
    let e = sym (point_is a.t.now q.0 a.p q.1) in
    let b = low-bound (point_record a.t.now (2 + 11 * a.p)) in (
      x ∙ ap lowest e,
      high_is a.t.now (2 + 11 * a.p) _ _ _ x c.byte.ensures y.0 ∙ ap highest e,
      omega (arith, y.1),
      omega (arith, x, b, y.1, y.2),
    )
