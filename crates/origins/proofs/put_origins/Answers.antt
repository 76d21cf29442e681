use mathlib.Core.Path.{refl, ◌∙◌}
use native.Mathlib.Omega.{arith}
use Rattle.model.specs.Format.{table_of}
use Rattle.arrays.specs.Flat.{origin, Origins}
use Rattle.model.proofs.RawExact.{few_points}
use Rattle.spans.proofs.PassLaws.{own_bins_lem}
use Rattle.origins.proofs.Accepted.{points_read, few_covers}
use Rattle.origins.proofs.PointRows.{filled_none, filled-turn}
use Rattle.origins.proofs.put_origins.Goals as goal

pub loop-p-init : goal.loop-p-init
loop-p-init c =
    (omega arith, refl, filled_none origin (table_of c.args.t.now) c.args.origins.now)

pub part_of-own-requires : goal.part_of-own-requires
part_of-own-requires c =
    let s = c.args.t.now in
    let q = c.requires in
    let n = c.layout_of-l in
    omega (arith, points_read s q.0 n.result n.ensures.value, few_points s q.0)

pub put_origins_at-requires : goal.put_origins_at-requires
put_origins_at-requires c =
    let a = c.args in
    let q = c.requires in
    let s = a.t.now in
    let l = c.loop-p in
    let n = c.layout_of-l in
    let own = c.part_of-own in
    let z = points_read s q.0 n.result n.ensures.value in
    (q.0, n.ensures.value, n.ensures.small, omega (arith, z), own_bins_lem s a.parts l.p own.result q.2 (omega (arith, z, few_points s q.0)) own.ensures, omega (arith, l.invariant.1, q.1))

pub loop-p-preserved : goal.loop-p-preserved
loop-p-preserved c =
    let a = c.args in
    let q = c.requires in
    let s = a.t.now in
    let l = c.loop-p in
    let n = c.layout_of-l in
    let z = points_read s q.0 n.result n.ensures.value in
    let w = c.put_origins_at in
    let t = table_of s in
    (omega arith, w.auto.out ∙ l.invariant.1, filled-turn origin t l.p (λ p h. few_covers s q.0 p (omega (arith, z))) l.origins w.new.out (omega (arith, z, l.invariant.1, q.1)) w.ensures l.invariant.2)

pub returns : goal.returns
unfolding Origins
returns c =
    let a = c.args in
    let q = c.requires in
    let s = a.t.now in
    let l = c.loop-p in
    let n = c.layout_of-l in
    let z = points_read s q.0 n.result n.ensures.value in
    ((λ p k h i. l.invariant.2 p k (omega (arith, z)) i), l.invariant.1)
