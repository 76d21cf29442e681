use mathlib.Core.Path.{◌≡◌, refl, sym, ap, ap₂, ◌∙◌}
use mathlib.Core.List.{[], ◌∷◌}
use Prim.Native.Nat.{ℕ, ◌+◌, ◌-◌, ◌<◌}
use native.Mathlib.Omega.{arith}
use lib.ListN.{length, get_or, set, take, drop}
use lib.Dec.{eqb}
use Rattle.std.proofs.lemmas.List.{length-take}
use Rattle.std.proofs.lemmas.List.Sums.{count_by-le-length}
use Rattle.model.specs.Counters.{point_counters}
use Rattle.model.specs.Format.{table_of}
use Rattle.model.specs.Register.{point_total}
use Rattle.model.proofs.RawExact.{few_points}
use Rattle.arrays.specs.Flat.{covers, cover_counts}
use Rattle.arrays.proofs.PutLaws.{put-nil, put-cons}
use Rattle.arrays.proofs.Written.{written_start, written-turn, written_end}
use Rattle.arrays.proofs.FlatLaws.{counts_length}
use Rattle.points.specs.Gates.{picked}
use Rattle.points.proofs.AllLaws.{few_here}
use Rattle.points.proofs.KindExact.{start_low}
use Rattle.points.proofs.ItemLaws.{start_read, end_read}
use Rattle.points.proofs.GateLaws.{start_within, kinds-long}
use Rattle.points.proofs.CountLaws.{covers-counted, counted_in, counts_from, counts_start, counts_turn, counts_end}
use Rattle.points.proofs.counts.put_each.Goals as goal

pub loop-p-init : goal.loop-p-init
loop-p-init c =
    let a = c.args in
    let t = table_of a.t.now in
    (omega arith, written_start 0 (cover_counts t) (counts_from t 0 (point_total t - 0)) a.counts.now (counts_start t))

pub offset_bounds-starts-p : goal.offset_bounds-starts-p
offset_bounds-starts-p c =
    let a = c.args in
    let p = c.requires in
    let l = c.loop-p in
    let s = a.t.now in
    let t = table_of s in
    let few = few_points s p.t_value.0 in
    omega (arith, few, p.starts_value.1)

pub bounds-starts-p : goal.bounds-starts-p
bounds-starts-p c =
    let a = c.args in
    let p = c.requires in
    let l = c.loop-p in
    let s = a.t.now in
    let t = table_of s in
    let few = few_points s p.t_value.0 in
    omega (arith, few, p.starts_value.1, p.t_value.2)

pub overflow_cast-from : goal.overflow_cast-from
overflow_cast-from c =
    let a = c.args in
    let p = c.requires in
    let l = c.loop-p in
    let s = a.t.now in
    let t = table_of s in
    let few = few_points s p.t_value.0 in
    let h : l.p < point_total t = omega (arith, p.starts_value.1) in
    let e = end_read t a.starts.now p.starts_value.0 l.p h in
    let b = start_read t a.starts.now p.starts_value.0 l.p (omega arith) in
    omega (arith, few, b, start_low s p.t_value.0 l.p (omega arith), p.starts_value.1)

pub overflow_add-end : goal.overflow_add-end
overflow_add-end c =
    let a = c.args in
    let p = c.requires in
    let l = c.loop-p in
    let s = a.t.now in
    let t = table_of s in
    let few = few_points s p.t_value.0 in
    omega (arith, few, p.starts_value.1)

pub offset_bounds-starts-p-in-loop-p : goal.offset_bounds-starts-p-in-loop-p
offset_bounds-starts-p-in-loop-p c =
    let a = c.args in
    let p = c.requires in
    let l = c.loop-p in
    let s = a.t.now in
    let t = table_of s in
    let few = few_points s p.t_value.0 in
    omega (arith, few, p.starts_value.1)

pub bounds-starts-p-in-loop-p : goal.bounds-starts-p-in-loop-p
bounds-starts-p-in-loop-p c =
    let a = c.args in
    let p = c.requires in
    let l = c.loop-p in
    let s = a.t.now in
    let t = table_of s in
    let few = few_points s p.t_value.0 in
    omega (arith, few, p.starts_value.1, p.t_value.2)

pub overflow_cast-end : goal.overflow_cast-end
overflow_cast-end c =
    let a = c.args in
    let p = c.requires in
    let l = c.loop-p in
    let s = a.t.now in
    let t = table_of s in
    let few = few_points s p.t_value.0 in
    let h : l.p < point_total t = omega (arith, p.starts_value.1) in
    let e = end_read t a.starts.now p.starts_value.0 l.p h in
    let b = start_read t a.starts.now p.starts_value.0 l.p (omega arith) in
    omega (arith, few, e, few_here s p.t_value.0 l.p h, start_low s p.t_value.0 l.p (omega arith), p.starts_value.1)

pub slice_bounds-covers_in-count : goal.slice_bounds-covers_in-count
slice_bounds-covers_in-count c =
    let a = c.args in
    let p = c.requires in
    let l = c.loop-p in
    let s = a.t.now in
    let t = table_of s in
    let few = few_points s p.t_value.0 in
    let h : l.p < point_total t = omega (arith, p.starts_value.1) in
    let e = end_read t a.starts.now p.starts_value.0 l.p h in
    let b = start_read t a.starts.now p.starts_value.0 l.p (omega arith) in
    omega (arith, e, b)

pub slice_bounds-covers_in-start : goal.slice_bounds-covers_in-start
slice_bounds-covers_in-start c =
    let a = c.args in
    let p = c.requires in
    let l = c.loop-p in
    let s = a.t.now in
    let t = table_of s in
    let few = few_points s p.t_value.0 in
    let h : l.p < point_total t = omega (arith, p.starts_value.1) in
    let e = end_read t a.starts.now p.starts_value.0 l.p h in
    let b = start_read t a.starts.now p.starts_value.0 l.p (omega arith) in
    omega (arith, e, b)

pub slice_bounds-covers_in-end : goal.slice_bounds-covers_in-end
slice_bounds-covers_in-end c =
    let a = c.args in
    let p = c.requires in
    let l = c.loop-p in
    let s = a.t.now in
    let t = table_of s in
    let few = few_points s p.t_value.0 in
    let h : l.p < point_total t = omega (arith, p.starts_value.1) in
    let e = end_read t a.starts.now p.starts_value.0 l.p h in
    let b = start_read t a.starts.now p.starts_value.0 l.p (omega arith) in
    omega (arith, e, b, start_within t l.p h, kinds-long t a.kinds.now p.t_value.3)

pub overflow_cast-counts : goal.overflow_cast-counts
overflow_cast-counts c =
    let a = c.args in
    let p = c.requires in
    let l = c.loop-p in
    let s = a.t.now in
    let t = table_of s in
    let few = few_points s p.t_value.0 in
    let h : l.p < point_total t = omega (arith, p.starts_value.1) in
    let e = end_read t a.starts.now p.starts_value.0 l.p h in
    let b = start_read t a.starts.now p.starts_value.0 l.p (omega arith) in
    let n = get_or a.starts.now (l.p + 1) 0 - get_or a.starts.now l.p 0 in
    omega (arith, e, b, c.covers_in.ensures, count_by-le-length (λ k. eqb k 0) (take n (drop (get_or a.starts.now l.p 0) a.kinds.now)), length-take n (drop (get_or a.starts.now l.p 0) a.kinds.now), few_here s p.t_value.0 l.p h)

pub offset_bounds-counts-p : goal.offset_bounds-counts-p
offset_bounds-counts-p c =
    let a = c.args in
    let p = c.requires in
    let l = c.loop-p in
    let s = a.t.now in
    let t = table_of s in
    let few = few_points s p.t_value.0 in
    omega (arith, few, p.starts_value.1)

pub bounds-counts-p : goal.bounds-counts-p
bounds-counts-p c =
    let a = c.args in
    let p = c.requires in
    let l = c.loop-p in
    let s = a.t.now in
    let t = table_of s in
    let few = few_points s p.t_value.0 in
    omega (arith, few, p.starts_value.1, p.t_value.1, l.invariant.1.kept)

pub loop-p-preserved : goal.loop-p-preserved
loop-p-preserved c =
    let a = c.args in
    let p = c.requires in
    let l = c.loop-p in
    let s = a.t.now in
    let t = table_of s in
    let few = few_points s p.t_value.0 in
    let h : l.p < point_total t = omega (arith, p.starts_value.1) in
    let e = end_read t a.starts.now p.starts_value.0 l.p h in
    let b = start_read t a.starts.now p.starts_value.0 l.p (omega arith) in
    let m : get_or a.starts.now (l.p + 1) 0 - get_or a.starts.now l.p 0 ≡ length (point_counters t l.p) = omega (arith, e, b) in
    let k : c.covers_in.result ≡ length (covers t l.p) = c.covers_in.ensures ∙ counted_in a.kinds.now (get_or a.starts.now l.p 0) (get_or a.starts.now (l.p + 1) 0 - get_or a.starts.now l.p 0) (omega (arith, e, b, start_within t l.p h, kinds-long t a.kinds.now p.t_value.3)) ∙ ap₂ (λ (x y : ℕ). length (picked a.kinds.now a.kinds.now x y)) b m ∙ covers-counted t l.p h a.kinds.now p.t_value.3 in
    let r = c.covers_in.result in
    let room : l.p < length l.counts = omega (arith, few, p.starts_value.1, p.t_value.1, l.invariant.1.kept) in (
      omega arith,
      written-turn 0 (cover_counts t) a.counts.now l.p l.counts (counts_from t l.p (point_total t - l.p)) l.invariant.1 (omega (arith, counts_length t, few, p.t_value.1)) (r ∷ []) (counts_from t (l.p + 1) (point_total t - (l.p + 1)))
          (counts_turn t l.p (point_total t) h ∙ ap (◌∷ counts_from t (l.p + 1) (point_total t - (l.p + 1))) (sym k))
          (l.p + 1) (set l.counts l.p r) refl (sym (put-nil (l.p + 1) (set l.counts l.p r)) ∙ put-cons l.p r [] l.counts room),
    )

pub returns : goal.returns
returns c =
    let a = c.args in
    let p = c.requires in
    let l = c.loop-p in
    let t = table_of a.t.now in
    (written_end 0 (cover_counts t) a.counts.now l.p l.counts (counts_from t l.p (point_total t - l.p)) l.invariant.1 (counts_end t l.p (point_total t) (omega (arith, p.starts_value.1)))).1
