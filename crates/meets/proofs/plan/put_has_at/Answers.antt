use mathlib.Core.Path.{ap, ap₂, ◌∙◌}
use mathlib.Core.List.{List}
use Prim.Native.Nat.{ℕ, ◌*◌}
use native.Mathlib.Omega.{arith}
use Rattle.model.specs.Format.{table_of}
use Rattle.model.proofs.RawExact.{few_points}
use Rattle.arrays.specs.Put.{put}
use Rattle.meets.specs.Pieces.{met_bits}
use Rattle.meets.proofs.PlanLaws.{few_covers, has_bits_lem, type-ends}
use Rattle.meets.proofs.plan.put_has_at.Goals as goal

pub overflow_mul-p : goal.overflow_mul-p
overflow_mul-p c = omega (arith, few_points c.args.plan.table.now c.requires.t_value.0)

pub put_meets-requires : goal.put_meets-requires
put_meets-requires c =
    let a = c.args in
    let q = c.requires in
    let b = c.limits_of-l.ensures in
    let e = type-ends (table_of a.plan.table.now) a.p _ _ b.0 b.1 b.2 in
    record { t_value = q.t_value; parts_value = (q.parts_value.0, omega (arith, q.parts_value.0, q.parts_value.1, few_points a.plan.table.now q.t_value.0, few_covers a.plan.table.now q.t_value.0 a.p q.t_value.1), e.0, e.1) }

pub returns : goal.returns
returns c =
    let a = c.args in
    let b = c.limits_of-l.ensures in
    c.put_meets.ensures ∙ ap (λ (xs : List ℕ). put (256 * a.p) xs a.out.now) (ap₂ (λ (x y : ℕ). met_bits (table_of a.plan.table.now) a.p x y) b.0 b.1 ∙ has_bits_lem (table_of a.plan.table.now) a.p)
