use mathlib.Core.Path.{◌≡◌, refl, sym, ap, ◌∙◌}
use mathlib.Core.List.{List}
use Prim.Native.Nat.{ℕ, ◌+◌, ◌-◌, ◌<◌}
use native.Mathlib.Omega.{arith}
use lib.ListN.{length, get_or, length-replicate}
use Rattle.model.specs.Counters.{point_counters}
use Rattle.model.specs.Format.{table_of}
use Rattle.model.specs.Register.{point_total}
use Rattle.model.proofs.RawExact.{few_points}
use Rattle.arrays.specs.Put.{put}
use Rattle.arrays.specs.Flat.{point_start}
use Rattle.arrays.proofs.Written.{put-turn}
use Rattle.points.proofs.AllLaws.{few_here}
use Rattle.points.proofs.KindExact.{start_zero, start_next, start_last, start_low}
use Rattle.points.proofs.ItemLaws.{end_read, items_all, items_next, items_none, items_room}
use Rattle.points.proofs.items.put_each.Goals as goal

pub loop-p-init : goal.loop-p-init
loop-p-init c =
    let a = c.args in
    let p = c.requires in
    (omega arith, refl, start_zero (table_of a.t.now), omega arith, ap (λ (x : List ℕ). put 0 x a.items.now) (items_all (table_of a.t.now) a.n p.4))

pub overflow_add-e : goal.overflow_add-e
overflow_add-e c = omega (arith, few_points c.args.t.now c.requires.0, c.requires.4)

pub offset_bounds-starts-p : goal.offset_bounds-starts-p
offset_bounds-starts-p c = omega (arith, few_points c.args.t.now c.requires.0, c.requires.4)

pub bounds-starts-p : goal.bounds-starts-p
bounds-starts-p c = omega (arith, few_points c.args.t.now c.requires.0, c.requires.4, c.requires.2)

pub overflow_cast-e : goal.overflow_cast-e
overflow_cast-e c =
    let a = c.args in
    let p = c.requires in
    let l = c.loop-p in
    let h : l.p < point_total (table_of a.t.now) = omega (arith, p.4) in
    omega (arith, end_read (table_of a.t.now) a.starts.now p.3 l.p h, few_here a.t.now p.0 l.p h, few_points a.t.now p.0, l.invariant.2, l.invariant.3)

pub overflow_sub-e : goal.overflow_sub-e
overflow_sub-e c =
    let a = c.args in
    let p = c.requires in
    let l = c.loop-p in
    let h : l.p < point_total (table_of a.t.now) = omega (arith, p.4) in
    omega (arith, end_read (table_of a.t.now) a.starts.now p.3 l.p h, l.invariant.2)

pub overflow_cast-p : goal.overflow_cast-p
overflow_cast-p c = omega (arith, few_points c.args.t.now c.requires.0, c.requires.4)

pub put_same-c-requires : goal.put_same-c-requires
put_same-c-requires c =
    let a = c.args in
    let p = c.requires in
    let l = c.loop-p in
    let h : l.p < point_total (table_of a.t.now) = omega (arith, p.4) in
    omega (arith, end_read (table_of a.t.now) a.starts.now p.3 l.p h, few_here a.t.now p.0 l.p h, few_points a.t.now p.0, l.invariant.1, l.invariant.2, l.invariant.3, p.1)

pub loop-p-preserved : goal.loop-p-preserved
loop-p-preserved c =
    let a = c.args in
    let p = c.requires in
    let l = c.loop-p in
    let q = c.put_same-c in
    let s = a.t.now in
    let t = table_of s in
    let h : l.p < point_total t = omega (arith, p.4) in
    let z = end_read t a.starts.now p.3 l.p h in
    let m : get_or a.starts.now (l.p + 1) 0 - l.c ≡ length (point_counters t l.p) = omega (arith, z, l.invariant.2) in
    let e : q.result ≡ point_start t (l.p + 1) = start_next t l.p q.result (omega (arith, q.ensures.0, z, l.invariant.2)) in
    let w = put-turn l.c q.result _ _ _ l.items q.new.xs (items_next t a.n l.p _ (omega arith) m) (items_room s p.0 a.n l.p l.c (length l.items) p.4 l.invariant.0 l.invariant.3 (omega (arith, l.invariant.1, p.1))) (omega (arith, q.ensures.0, length-replicate (get_or a.starts.now (l.p + 1) 0 - l.c) l.p)) q.ensures.1 in
    (omega arith, q.auto.xs ∙ l.invariant.1, e, omega (arith, e, start_low s p.0 (l.p + 1) (omega (arith, p.4))), w.1 ∙ l.invariant.4)

pub returns : goal.returns
returns c =
    let a = c.args in
    let p = c.requires in
    let l = c.loop-p in
    let t = table_of a.t.now in
    let e : l.p ≡ a.n = omega arith in
    record { value = l.invariant.2 ∙ ap (point_start t) e ∙ start_last t a.n p.4; after = sym (items_none t a.n l.p l.c l.items (omega arith)) ∙ l.invariant.4 }
