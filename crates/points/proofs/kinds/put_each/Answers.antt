use mathlib.Core.Path.{◌≡◌, refl, sym, ap, ◌∙◌}
use mathlib.Core.List.{List}
use Prim.Native.Nat.{ℕ, suc, ◌+◌, ◌-◌}
use native.Mathlib.Omega.{arith}
use lib.ListN.{length, length-set}
use Rattle.model.specs.Counters.{point_counters}
use Rattle.model.specs.Format.{table_of}
use Rattle.arrays.specs.Put.{put}
use Rattle.arrays.specs.Flat.{point_start}
use Rattle.arrays.proofs.Written.{put-turn}
use Rattle.arrays.proofs.FlatLaws.{kinds-length}
use Rattle.spans.proofs.PassLaws.{own_bins_lem}
use Rattle.points.proofs.AllLaws.{point_number}
use Rattle.points.proofs.KindExact.{starts_from, start_zero, start_next, start_last, start_low, kinds_all, kinds_next, kinds_none, kinds_room, starts_all, starts_next, starts_last}
use Rattle.points.proofs.kinds.put_each.Goals as goal

pub own_parts-parts-requires : goal.own_parts-parts-requires
own_parts-parts-requires c = c.requires.0.good

pub loop-p-init : goal.loop-p-init
loop-p-init c =
    let a = c.args in
    let g = c.requires.0 in
    let t = table_of a.t.now in
    let n = (point_number a.t.now g.good a.l g.placed).0 in
    (omega arith, refl, refl, start_zero t, omega arith, ap (λ (x : List ℕ). put 0 x a.kinds.now) (kinds_all t a.l.point_count n), ap (λ (x : List ℕ). put 0 x a.starts.now) (starts_all t a.l.point_count n))

pub overflow_cast-starts : goal.overflow_cast-starts
overflow_cast-starts c =
    let a = c.args in
    let g = c.requires.0 in
    omega (arith, point_number a.t.now g.good a.l g.placed, c.loop-p.invariant.4)

pub offset_bounds-starts-p : goal.offset_bounds-starts-p
offset_bounds-starts-p c =
    let a = c.args in
    let g = c.requires.0 in
    omega (arith, point_number a.t.now g.good a.l g.placed)

pub bounds-starts-p : goal.bounds-starts-p
bounds-starts-p c =
    let a = c.args in
    let g = c.requires.0 in
    omega (arith, point_number a.t.now g.good a.l g.placed, c.loop-p.invariant.2, c.requires.2)

pub part_of-own-requires : goal.part_of-own-requires
part_of-own-requires c =
    let a = c.args in
    let g = c.requires.0 in
    omega (arith, point_number a.t.now g.good a.l g.placed)

pub overflow_cast-p : goal.overflow_cast-p
overflow_cast-p c =
    let a = c.args in
    let g = c.requires.0 in
    omega (arith, point_number a.t.now g.good a.l g.placed)

pub put_kinds-c-requires : goal.put_kinds-c-requires
put_kinds-c-requires c =
    let a = c.args in
    let g = c.requires.0 in
    let l = c.loop-p in
    let n = point_number a.t.now g.good a.l g.placed in
    (g, omega (arith, n), own_bins_lem a.t.now c.own_parts-parts.result l.p c.part_of-own.result c.own_parts-parts.ensures (omega (arith, n)) c.part_of-own.ensures, omega (arith, n, l.invariant.1, l.invariant.4, c.requires.1))

pub loop-p-preserved : goal.loop-p-preserved
loop-p-preserved c =
    let a = c.args in
    let p = c.requires in
    let g = p.0 in
    let l = c.loop-p in
    let q = c.put_kinds-c in
    let s = a.t.now in
    let t = table_of s in
    let m = a.l.point_count in
    let n = point_number s g.good a.l g.placed in
    let e : q.result ≡ point_start t (l.p + 1) = start_next t l.p q.result (omega (arith, q.ensures.0, l.invariant.3)) in
    let w = put-turn l.c q.result _ _ _ l.kinds q.new.kinds (kinds_next t m l.p (omega arith)) (kinds_room s g.good m l.p l.c (length l.kinds) n.0 l.invariant.0 l.invariant.4 (omega (arith, l.invariant.1, p.1))) (omega (arith, q.ensures.0, kinds-length (point_counters t l.p))) q.ensures.1 in (
      omega arith,
      q.auto.kinds ∙ l.invariant.1,
      simp length-set l.invariant.2,
      e,
      omega (arith, e, start_low s g.good (l.p + 1) (omega (arith, n.0))),
      w.1 ∙ l.invariant.5,
      starts_next t m l.p l.c l.starts (omega arith) (omega (arith, n, l.invariant.2, p.2)) l.invariant.3 ∙ l.invariant.6,
    )

pub overflow_cast-starts-2 : goal.overflow_cast-starts-2
overflow_cast-starts-2 c =
    let a = c.args in
    let g = c.requires.0 in
    omega (arith, point_number a.t.now g.good a.l g.placed, c.loop-p.invariant.4)

pub offset_bounds-starts-n : goal.offset_bounds-starts-n
offset_bounds-starts-n c =
    let a = c.args in
    let g = c.requires.0 in
    omega (arith, point_number a.t.now g.good a.l g.placed)

pub bounds-starts-n : goal.bounds-starts-n
bounds-starts-n c =
    let a = c.args in
    let g = c.requires.0 in
    omega (arith, point_number a.t.now g.good a.l g.placed, c.loop-p.invariant.2, c.requires.2)

pub returns : goal.returns
returns c =
    let a = c.args in
    let p = c.requires in
    let g = p.0 in
    let l = c.loop-p in
    let s = a.t.now in
    let t = table_of s in
    let m = a.l.point_count in
    let n = point_number s g.good a.l g.placed in
    let e : l.p ≡ m = omega arith in
    let k : l.c ≡ point_start t m = l.invariant.3 ∙ ap (point_start t) e in record {
      value = k ∙ start_last t m n.0;
      kinds_after = (
        sym (kinds_none t m l.p l.c l.kinds (omega arith)) ∙ l.invariant.5,
        starts_last t m l.c l.starts (omega (arith, n, l.invariant.2, p.2)) k ∙ ap (λ (i : ℕ). put i (starts_from t i (suc m - i)) l.starts) (sym e) ∙ l.invariant.6,
      );
    }
