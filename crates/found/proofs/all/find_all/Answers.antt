use mathlib.Core.Path.{refl, sym, ap, ◌∙◌}
use Prim.Native.Nat.{◌<◌}
use native.Mathlib.Omega.{arith}
use Rattle.model.specs.Values.{lowest}
use Rattle.model.specs.Format.{table_of}
use Rattle.model.specs.Register.{point_total}
use Rattle.model.proofs.RawExact.{few_points}
use Rattle.layout.proofs.PlaceLaws.{points-total}
use Rattle.places.specs.Places.{Found}
use Rattle.meets.proofs.PlanLaws.{point_is, wide_at}
use Rattle.found.proofs.HitLaws.{few_hits}
use Rattle.found.proofs.AllLaws.{code_at, bins-place, found_turn}
use Rattle.found.proofs.all.find_all.Goals as goal

pub loop-p-init : goal.loop-p-init
loop-p-init c =
    let a = c.args in
    let q = c.requires in
    (omega arith, points-total a.t.now q.t_value.0 _ c.point_count-n.ensures.value, refl, λ p h. absurd (omega arith))

pub overflow_mul-p : goal.overflow_mul-p
overflow_mul-p c =
    let a = c.args in
    let q = c.requires in
    let l = c.loop-p in
    omega (arith, few_points a.t.now q.t_value.0, l.invariant.1, c.loop-p-test.true)

pub lowest_at-requires : goal.lowest_at-requires
lowest_at-requires c =
    let a = c.args in
    let q = c.requires in
    let l = c.loop-p in
    (omega (arith, few_points a.t.now q.t_value.0, l.invariant.1, c.loop-p-test.true), wide_at a.t.now q.t_value.0 l.p (omega (arith, l.invariant.1, c.loop-p-test.true)))

pub offset_bounds-readings-p : goal.offset_bounds-readings-p
offset_bounds-readings-p c =
    let a = c.args in
    let q = c.requires in
    let l = c.loop-p in
    omega (arith, few_points a.t.now q.t_value.0, l.invariant.1, c.loop-p-test.true)

pub bounds-readings-p : goal.bounds-readings-p
bounds-readings-p c =
    let a = c.args in
    let q = c.requires in
    let l = c.loop-p in
    omega (arith, few_points a.t.now q.t_value.0, l.invariant.1, c.loop-p-test.true, q.t_value.2)

pub find_point-requires : goal.find_point-requires
find_point-requires c =
    let a = c.args in
    let q = c.requires in
    let y = c.bin_sections-l in
    let l = c.loop-p in
    let s = a.t.now in
    let h : l.p < point_total (table_of s) = omega (arith, l.invariant.1, c.loop-p-test.true) in
    record { reading = record { good = q.t_value.0; own = h; widths = q.t_value.1.widths; code = code_at (table_of s) a.sample.now a.readings.now l.p q.t_value.1 h; low = c.lowest_at.ensures ∙ ap lowest (sym (point_is s q.t_value.0 l.p h)); bins = bins-place s y.result y.ensures.value }; values_plan = (q.values_plan.0, q.values_plan.1, q.values_plan.2, omega (arith, q.values_plan.3, l.invariant.2)) }

pub loop-p-preserved : goal.loop-p-preserved
loop-p-preserved c =
    let a = c.args in
    let q = c.requires in
    let l = c.loop-p in
    let s = a.t.now in
    let h = c.loop-p-test.true in
    let w = c.find_point in (
      omega (arith, h),
      l.invariant.1,
      w.auto.found ∙ l.invariant.2,
      found_turn (table_of s) a.sample.now l.p l.found (omega (arith, h, l.invariant.1, l.invariant.2, q.values_plan.3)) (λ p k. few_hits s a.sample.now q.t_value.0 q.t_value.1.widths p (omega (arith, h, l.invariant.1))) w.new.found w.ensures l.invariant.3,
    )

pub returns : goal.returns
unfolding Found
returns c =
    let l = c.loop-p in
    ((λ p h. l.invariant.3 p (omega (arith, l.invariant.1, c.loop-p-test.false))), l.invariant.2)
