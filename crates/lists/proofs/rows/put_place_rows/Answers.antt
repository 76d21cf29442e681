use mathlib.Core.Path.{refl, ap, ◌∙◌}
use Prim.Native.Nat.{◌+◌, ◌-◌, ◌*◌, ◌≤◌, ◌<◌}
use native.Mathlib.Omega.{arith}
use borrow.Rule.Slice.PartMut.{same_len_mid}
use lib.ListN.{length, get_or}
use Rattle.model.specs.Format.{table_of}
use Rattle.model.specs.Register.{point_total}
use Rattle.layout.proofs.PlaceLaws.{points-total}
use Rattle.points.proofs.AllLaws.{few_here}
use Rattle.arrays.specs.Put.{put}
use Rattle.lists.proofs.Fronts.{lent_length, back-put}
use Rattle.lists.proofs.RowLaws.{row_is, rows_none, rows_next, rows_all, turn}
use Rattle.lists.proofs.rows.put_place_rows.Goals as goal

pub loop-p-init : goal.loop-p-init
loop-p-init c =
    let a = c.args in
    let p = c.requires in
    let s = a.t.now in
    (omega arith, points-total s p.t_value.0 _ c.point_count-n.ensures.value, refl, rows_none (table_of s) (few_here s p.t_value.0) a.rows.now)

pub offset_bounds-starts-p : goal.offset_bounds-starts-p
offset_bounds-starts-p c =
    let a = c.args in
    let p = c.requires in
    let l = c.loop-p in
    let s = a.t.now in
    let h : l.p < point_total (table_of s) = omega (arith, l.invariant.1) in
    let k = turn s p.t_value.0 a.kinds.now a.starts.now l.rows p.kinded.0 p.kinded.1 (omega (arith, l.invariant.2, p.t_value.1)) l.p h in
    omega (arith, k.few, k.first, k.last, k.short, k.low, k.within, k.room)

pub bounds-starts-p : goal.bounds-starts-p
bounds-starts-p c =
    let a = c.args in
    let p = c.requires in
    let l = c.loop-p in
    let s = a.t.now in
    let h : l.p < point_total (table_of s) = omega (arith, l.invariant.1) in
    let k = turn s p.t_value.0 a.kinds.now a.starts.now l.rows p.kinded.0 p.kinded.1 (omega (arith, l.invariant.2, p.t_value.1)) l.p h in
    omega (arith, k.few, k.first, k.last, k.short, k.low, k.within, k.room, p.t_value.2)

pub overflow_cast-from : goal.overflow_cast-from
overflow_cast-from c =
    let a = c.args in
    let p = c.requires in
    let l = c.loop-p in
    let s = a.t.now in
    let h : l.p < point_total (table_of s) = omega (arith, l.invariant.1) in
    let k = turn s p.t_value.0 a.kinds.now a.starts.now l.rows p.kinded.0 p.kinded.1 (omega (arith, l.invariant.2, p.t_value.1)) l.p h in
    omega (arith, k.few, k.first, k.last, k.short, k.low, k.within, k.room)

pub overflow_add-end : goal.overflow_add-end
overflow_add-end c =
    let a = c.args in
    let p = c.requires in
    let l = c.loop-p in
    let s = a.t.now in
    let h : l.p < point_total (table_of s) = omega (arith, l.invariant.1) in
    let k = turn s p.t_value.0 a.kinds.now a.starts.now l.rows p.kinded.0 p.kinded.1 (omega (arith, l.invariant.2, p.t_value.1)) l.p h in
    omega (arith, k.few, k.first, k.last, k.short, k.low, k.within, k.room)

pub offset_bounds-starts-p-in-loop-p : goal.offset_bounds-starts-p-in-loop-p
offset_bounds-starts-p-in-loop-p c =
    let a = c.args in
    let p = c.requires in
    let l = c.loop-p in
    let s = a.t.now in
    let h : l.p < point_total (table_of s) = omega (arith, l.invariant.1) in
    let k = turn s p.t_value.0 a.kinds.now a.starts.now l.rows p.kinded.0 p.kinded.1 (omega (arith, l.invariant.2, p.t_value.1)) l.p h in
    omega (arith, k.few, k.first, k.last, k.short, k.low, k.within, k.room)

pub bounds-starts-p-in-loop-p : goal.bounds-starts-p-in-loop-p
bounds-starts-p-in-loop-p c =
    let a = c.args in
    let p = c.requires in
    let l = c.loop-p in
    let s = a.t.now in
    let h : l.p < point_total (table_of s) = omega (arith, l.invariant.1) in
    let k = turn s p.t_value.0 a.kinds.now a.starts.now l.rows p.kinded.0 p.kinded.1 (omega (arith, l.invariant.2, p.t_value.1)) l.p h in
    omega (arith, k.few, k.first, k.last, k.short, k.low, k.within, k.room, p.t_value.2)

pub overflow_cast-end : goal.overflow_cast-end
overflow_cast-end c =
    let a = c.args in
    let p = c.requires in
    let l = c.loop-p in
    let s = a.t.now in
    let h : l.p < point_total (table_of s) = omega (arith, l.invariant.1) in
    let k = turn s p.t_value.0 a.kinds.now a.starts.now l.rows p.kinded.0 p.kinded.1 (omega (arith, l.invariant.2, p.t_value.1)) l.p h in
    omega (arith, k.few, k.first, k.last, k.short, k.low, k.within, k.room)

pub overflow_mul-p : goal.overflow_mul-p
overflow_mul-p c =
    let a = c.args in
    let p = c.requires in
    let l = c.loop-p in
    let s = a.t.now in
    let h : l.p < point_total (table_of s) = omega (arith, l.invariant.1) in
    let k = turn s p.t_value.0 a.kinds.now a.starts.now l.rows p.kinded.0 p.kinded.1 (omega (arith, l.invariant.2, p.t_value.1)) l.p h in
    omega (arith, k.few, k.first, k.last, k.short, k.low, k.within, k.room)

pub offset_bounds-rows-p : goal.offset_bounds-rows-p
offset_bounds-rows-p c =
    let a = c.args in
    let p = c.requires in
    let l = c.loop-p in
    let s = a.t.now in
    let h : l.p < point_total (table_of s) = omega (arith, l.invariant.1) in
    let k = turn s p.t_value.0 a.kinds.now a.starts.now l.rows p.kinded.0 p.kinded.1 (omega (arith, l.invariant.2, p.t_value.1)) l.p h in
    omega (arith, k.few, k.first, k.last, k.short, k.low, k.within, k.room)

pub slice_bounds-put_row-count : goal.slice_bounds-put_row-count
slice_bounds-put_row-count c =
    let a = c.args in
    let p = c.requires in
    let l = c.loop-p in
    let s = a.t.now in
    let h : l.p < point_total (table_of s) = omega (arith, l.invariant.1) in
    let k = turn s p.t_value.0 a.kinds.now a.starts.now l.rows p.kinded.0 p.kinded.1 (omega (arith, l.invariant.2, p.t_value.1)) l.p h in
    omega (arith, k.few, k.first, k.last, k.short, k.low, k.within, k.room)

pub slice_bounds-put_row-start : goal.slice_bounds-put_row-start
slice_bounds-put_row-start c =
    let a = c.args in
    let p = c.requires in
    let l = c.loop-p in
    let s = a.t.now in
    let h : l.p < point_total (table_of s) = omega (arith, l.invariant.1) in
    let k = turn s p.t_value.0 a.kinds.now a.starts.now l.rows p.kinded.0 p.kinded.1 (omega (arith, l.invariant.2, p.t_value.1)) l.p h in
    omega (arith, k.few, k.first, k.last, k.short, k.low, k.within, k.room)

pub slice_bounds-put_row-count-in-loop-p : goal.slice_bounds-put_row-count-in-loop-p
slice_bounds-put_row-count-in-loop-p c =
    let a = c.args in
    let p = c.requires in
    let l = c.loop-p in
    let s = a.t.now in
    let h : l.p < point_total (table_of s) = omega (arith, l.invariant.1) in
    let k = turn s p.t_value.0 a.kinds.now a.starts.now l.rows p.kinded.0 p.kinded.1 (omega (arith, l.invariant.2, p.t_value.1)) l.p h in
    omega (arith, k.few, k.first, k.last, k.short, k.low, k.within, k.room)

pub slice_bounds-put_row-start-in-loop-p : goal.slice_bounds-put_row-start-in-loop-p
slice_bounds-put_row-start-in-loop-p c =
    let a = c.args in
    let p = c.requires in
    let l = c.loop-p in
    let s = a.t.now in
    let h : l.p < point_total (table_of s) = omega (arith, l.invariant.1) in
    let k = turn s p.t_value.0 a.kinds.now a.starts.now l.rows p.kinded.0 p.kinded.1 (omega (arith, l.invariant.2, p.t_value.1)) l.p h in
    omega (arith, k.few, k.first, k.last, k.short, k.low, k.within, k.room)

pub overflow_sub-end : goal.overflow_sub-end
overflow_sub-end c =
    let a = c.args in
    let p = c.requires in
    let l = c.loop-p in
    let s = a.t.now in
    let h : l.p < point_total (table_of s) = omega (arith, l.invariant.1) in
    let k = turn s p.t_value.0 a.kinds.now a.starts.now l.rows p.kinded.0 p.kinded.1 (omega (arith, l.invariant.2, p.t_value.1)) l.p h in
    omega (arith, k.few, k.first, k.last, k.short, k.low, k.within, k.room)

pub put_row-requires : goal.put_row-requires
put_row-requires c =
    let a = c.args in
    let p = c.requires in
    let l = c.loop-p in
    let s = a.t.now in
    let h : l.p < point_total (table_of s) = omega (arith, l.invariant.1) in
    let k = turn s p.t_value.0 a.kinds.now a.starts.now l.rows p.kinded.0 p.kinded.1 (omega (arith, l.invariant.2, p.t_value.1)) l.p h in
    let from = get_or a.starts.now l.p 0 in
    let kinds = lent_length from a.kinds.now (omega (arith, k.few, k.first, k.last, k.short, k.low, k.within, k.room)) in
    let row = lent_length (258 * l.p) l.rows (omega (arith, k.room)) in
    (omega (arith, kinds, k.few, k.first, k.last, k.short, k.low, k.within, k.room), omega (arith, row, k.room), omega (arith, k.few, k.first, k.last, k.short, k.low, k.within, k.room), omega (arith, k.few, k.first, k.last, k.short, k.low, k.within, k.room))

pub loop-p-preserved : goal.loop-p-preserved
loop-p-preserved c =
    let a = c.args in
    let p = c.requires in
    let l = c.loop-p in
    let s = a.t.now in
    let h : l.p < point_total (table_of s) = omega (arith, l.invariant.1) in
    let k = turn s p.t_value.0 a.kinds.now a.starts.now l.rows p.kinded.0 p.kinded.1 (omega (arith, l.invariant.2, p.t_value.1)) l.p h in
    let q = c.put_row in
    let t = table_of s in
    let from = get_or a.starts.now l.p 0 in
    let n = get_or a.starts.now (l.p + 1) 0 - from in
    let e = row_is t l.p h a.kinds.now p.kinded.0 from n k.first (omega (arith, k.first, k.last)) in
    let at : 258 * l.p ≤ length l.rows = omega (arith, k.room) in (
      omega arith,
      l.invariant.1,
      same_len_mid (258 * l.p) (length l.rows - 258 * l.p) l.rows q.new.row q.auto.row ∙ l.invariant.2,
      rows_next t (few_here s p.t_value.0) l.p l.rows _ h at (back-put (258 * l.p) l.rows at q.new.row _ q.ensures ∙ ap (λ x. put (258 * l.p) x l.rows) e) l.invariant.3,
    )

pub returns : goal.returns
returns c =
    let a = c.args in
    let p = c.requires in
    let l = c.loop-p in
    let s = a.t.now in
    (rows_all (table_of s) (few_here s p.t_value.0) l.p l.rows (omega (arith, l.invariant.1)) l.invariant.3, l.invariant.2)
