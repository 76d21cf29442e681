use mathlib.Core.Path.{refl, ◌∙◌}
use Prim.Native.Nat.{◌<◌}
use native.Mathlib.Omega.{arith}
use Rattle.model.specs.Format.{table_of}
use Rattle.model.specs.Register.{point_total}
use Rattle.model.proofs.RawExact.{few_points}
use Rattle.arrays.specs.Flat.{Tells}
use Rattle.meets.proofs.PlanLaws.{points_read, few_covers, count_at, filled-turn}
use Rattle.meets.proofs.plan.put_has.Goals as goal

pub loop-p-init : goal.loop-p-init
loop-p-init c = (omega arith, refl, λ p k h i. absurd (omega arith))

pub put_has_at-requires : goal.put_has_at-requires
put_has_at-requires c =
    let a = c.args in
    let q = c.requires in
    let l = c.loop-p in
    let n = c.read2-n in
    let z = points_read a.t.now q.0 n.result n.ensures in
    let h : l.p < point_total (table_of a.t.now) = omega (arith, z) in
    record { t_value = (q.0, h, q.1); parts_value = (c.element-parts.ensures ∙ count_at (table_of a.t.now) a.counts.now l.p h q.2, omega (arith, l.invariant.1, q.3)) }

pub loop-p-preserved : goal.loop-p-preserved
loop-p-preserved c =
    let a = c.args in
    let q = c.requires in
    let s = a.t.now in
    let l = c.loop-p in
    let n = c.read2-n in
    let z = points_read s q.0 n.result n.ensures in
    let w = c.put_has_at in
    let f = few_points s q.0 in (
      omega arith,
      w.auto.out ∙ l.invariant.1,
      filled-turn (table_of s) l.p (λ p h. few_covers s q.0 p (omega (arith, z))) l.out w.new.out (omega (arith, z, l.invariant.1, q.3)) w.ensures l.invariant.2,
    )

pub returns : goal.returns
unfolding Tells
returns c =
    let a = c.args in
    let q = c.requires in
    let s = a.t.now in
    let l = c.loop-p in
    let n = c.read2-n in
    let z = points_read s q.0 n.result n.ensures in
    ((λ p k h i. l.invariant.2 p k (omega (arith, z)) i), l.invariant.1)
