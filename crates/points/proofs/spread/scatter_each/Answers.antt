use mathlib.Core.Path.{◌≡◌, refl, sym, ap, ap₂, ◌∙◌}
use mathlib.Core.List.{List}
use Prim.Native.Nat.{ℕ, ◌+◌, ◌-◌, ◌*◌, ◌<◌}
use native.Mathlib.Omega.{arith}
use lib.ListN.{length, get_or}
use Rattle.model.specs.Counters.{point_counters}
use Rattle.model.specs.Format.{table_of}
use Rattle.model.specs.Register.{point_total}
use Rattle.model.proofs.RawExact.{few_points}
use Rattle.arrays.specs.Put.{put}
use Rattle.arrays.specs.Flat.{total_flags, point_start}
use Rattle.arrays.proofs.Written.{put-turn}
use Rattle.points.specs.Spread.{spread}
use Rattle.points.proofs.AllLaws.{few_here}
use Rattle.points.proofs.KindExact.{start_zero, start_next, start_last, start_low}
use Rattle.points.proofs.ItemLaws.{end_read}
use Rattle.points.proofs.GateLaws.{start_within, kinds-long}
use Rattle.points.proofs.SpreadLaws.{point_totals, totals_all, totals_next, totals_none, totals-length, totals_room}
use Rattle.points.proofs.spread.scatter_each.Goals as goal

pub loop-p-init : goal.loop-p-init
loop-p-init c =
    let a = c.args in
    let p = c.requires in
    (omega arith, refl, start_zero (table_of a.t.now), omega arith, ap (λ (x : List ℕ). put 0 x a.flags.now) (totals_all (table_of a.t.now) a.n p.t_value.4))

pub overflow_add-e : goal.overflow_add-e
overflow_add-e c = omega (arith, few_points c.args.t.now c.requires.t_value.0, c.requires.t_value.4)

pub offset_bounds-starts-p : goal.offset_bounds-starts-p
offset_bounds-starts-p c = omega (arith, few_points c.args.t.now c.requires.t_value.0, c.requires.t_value.4)

pub bounds-starts-p : goal.bounds-starts-p
bounds-starts-p c = omega (arith, few_points c.args.t.now c.requires.t_value.0, c.requires.t_value.4, c.requires.t_value.3)

pub overflow_cast-e : goal.overflow_cast-e
overflow_cast-e c =
    let a = c.args in
    let p = c.requires in
    let l = c.loop-p in
    let h : l.p < point_total (table_of a.t.now) = omega (arith, p.t_value.4) in
    omega (arith, end_read (table_of a.t.now) a.starts.now p.kinded.1 l.p h, few_here a.t.now p.t_value.0 l.p h, few_points a.t.now p.t_value.0, l.invariant.2, l.invariant.3)

pub overflow_mul-p : goal.overflow_mul-p
overflow_mul-p c = omega (arith, few_points c.args.t.now c.requires.t_value.0, c.requires.t_value.4)

pub overflow_sub-e : goal.overflow_sub-e
overflow_sub-e c =
    let a = c.args in
    let p = c.requires in
    let l = c.loop-p in
    let h : l.p < point_total (table_of a.t.now) = omega (arith, p.t_value.4) in
    omega (arith, end_read (table_of a.t.now) a.starts.now p.kinded.1 l.p h, l.invariant.2)

pub scatter_some-requires : goal.scatter_some-requires
scatter_some-requires c =
    let a = c.args in
    let p = c.requires in
    let l = c.loop-p in
    let t = table_of a.t.now in
    let h : l.p < point_total t = omega (arith, p.t_value.4) in
    let e = end_read t a.starts.now p.kinded.1 l.p h in
    let few = few_here a.t.now p.t_value.0 l.p h in
    let n = few_points a.t.now p.t_value.0 in
    let w = start_within t l.p h in
    (omega (arith, e, few, n, l.invariant.1, l.invariant.2, l.invariant.3, p.t_value.1), omega (arith, e, w, l.invariant.2, kinds-long t a.kinds.now p.kinded.0), omega (arith, e, few, n, l.invariant.2, p.t_value.2), omega (arith, e, few, n, l.invariant.2))

pub loop-p-preserved : goal.loop-p-preserved
loop-p-preserved c =
    let a = c.args in
    let p = c.requires in
    let l = c.loop-p in
    let q = c.scatter_some in
    let s = a.t.now in
    let t = table_of s in
    let h : l.p < point_total t = omega (arith, p.t_value.4) in
    let z = end_read t a.starts.now p.kinded.1 l.p h in
    let m : get_or a.starts.now (l.p + 1) 0 - l.c ≡ length (point_counters t l.p) = omega (arith, z, l.invariant.2) in
    let e : get_or a.starts.now (l.p + 1) 0 ≡ point_start t (l.p + 1) = start_next t l.p (get_or a.starts.now (l.p + 1) 0) z in
    let x : spread a.kinds.now a.has.now l.c (256 * l.p) (get_or a.starts.now (l.p + 1) 0 - l.c) ≡ total_flags t (point_counters t l.p)
    = ap₂ (λ (i n : ℕ). spread a.kinds.now a.has.now i (256 * l.p) n) l.invariant.2 m ∙ point_totals t a.kinds.now a.has.now l.p h p.kinded.0 p.kinded.2 in
    let w = put-turn l.c (get_or a.starts.now (l.p + 1) 0) _ _ _ l.flags q.new.flags (totals_next t a.n l.p (omega arith)) (totals_room s p.t_value.0 a.n l.p l.c (length l.flags) p.t_value.4 l.invariant.0 l.invariant.3 (omega (arith, l.invariant.1, p.t_value.1))) (omega (arith, z, l.invariant.2, totals-length t (point_counters t l.p))) (q.ensures ∙ ap (λ (y : List ℕ). put l.c y l.flags) x) in
    (omega arith, q.auto.flags ∙ l.invariant.1, e, omega (arith, e, start_low s p.t_value.0 (l.p + 1) (omega (arith, p.t_value.4))), w.1 ∙ l.invariant.4)

pub returns : goal.returns
returns c =
    let a = c.args in
    let p = c.requires in
    let l = c.loop-p in
    let t = table_of a.t.now in
    let e : l.p ≡ a.n = omega arith in
    record { value = l.invariant.2 ∙ ap (point_start t) e ∙ start_last t a.n p.t_value.4; flags_after = sym (totals_none t a.n l.p l.c l.flags (omega arith)) ∙ l.invariant.4 }
