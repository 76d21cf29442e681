use mathlib.Core.Path.{sym, ap, ◌∙◌}
use mathlib.Core.List.{List}
use Prim.Native.Nat.{ℕ, ◌*◌}
use native.Mathlib.Omega.{arith}
use Rattle.model.proofs.RawExact.{few_points}
use Rattle.arrays.specs.Put.{put}
use Rattle.origins.proofs.Accepted.{few_covers, wide_at, own-after, own-few, origins-count, origins-are}
use Rattle.origins.proofs.put_origins_at.Goals as goal

pub overflow_mul-p : goal.overflow_mul-p
overflow_mul-p c = omega (arith, few_points c.args.t.now c.requires.0)

pub overflow_cast-p : goal.overflow_cast-p
overflow_cast-p c = omega (arith, few_points c.args.t.now c.requires.0)

pub put_point_origins-requires : goal.put_point_origins-requires
put_point_origins-requires c =
    let a = c.args in
    let q = c.requires in
    let s = a.t.now in
    let m = q.2 in
    let o = q.4 in record {
      points_bound = (omega (arith, m.points), omega (arith, m.transitions), m.transition_count, wide_at s q.0 a.p q.3 a.l q.1);
      bins_bound = (
        o.near,
        o.near_ranges,
        own-after s q.0 a.p q.3 a.l q.1 a.own o.part,
        own-few s q.0 a.p q.3 a.l q.1 a.own o.part,
        omega (arith, origins-count s q.0 a.p q.3 a.l q.1 a.own o.part, few_covers s q.0 a.p q.3, few_points s q.0, q.5),
      );
    }

pub returns : goal.returns
returns c =
    let a = c.args in
    let q = c.requires in
    c.put_point_origins.ensures.1 ∙ ap (λ (x : List ℕ). put (256 * a.p) x a.out.now) (sym (origins-are a.t.now q.0 a.p q.3 a.l q.1 a.own q.4.part))
