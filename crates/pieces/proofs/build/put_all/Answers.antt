use mathlib.Core.Path.{◌≡◌, refl, ◌∙◌}
use Prim.Native.Nat.{◌+◌, ◌*◌, ◌<◌}
use native.Mathlib.Omega.{arith}
use lib.ListN.{length, length-set}
use Rattle.model.specs.Format.{table_of}
use Rattle.model.proofs.RawExact.{few_points}
use Rattle.spans.proofs.Point.{point_listed}
use Rattle.spans.proofs.PassLaws.{own_bins_lem}
use Rattle.meets.proofs.PlanLaws.{points_read}
use Rattle.pieces.proofs.PlanTurns.{need-start, need_next, turn_room, planned_turn, first-start, next_start, all-planned}
use Rattle.pieces.proofs.build.put_all.Goals as goal

pub loop-p-init : goal.loop-p-init
loop-p-init c =
    let a = c.args in
    let q = c.requires in
    let e = points_read a.t.now q.t_value.0 _ c.read2-n.ensures in
    (omega arith, e, refl, simp length-set refl, refl, refl, need-start (table_of a.t.now) _ e, first-start a.bounds.now q.t_value.2, (λ x h. absurd (omega arith)))

pub part_of-own-requires : goal.part_of-own-requires
part_of-own-requires c =
    let a = c.args in
    let q = c.requires in
    omega (arith, c.loop-p.invariant.1, few_points a.t.now q.t_value.0)

pub put_point-r-requires : goal.put_point-r-requires
put_point-r-requires c =
    let a = c.args in
    let q = c.requires in
    let l = c.loop-p in
    let h = turn_room a.t.now q.t_value.0 _ l.p l.at l.invariant.1 (omega arith) l.invariant.6 in
    let r = point_listed a.t.now q.t_value.0 l.p in
    let o = c.part_of-own in
    let own = own_bins_lem a.t.now a.parts l.p o.result q.t_value.3 (omega (arith, l.invariant.1, few_points a.t.now q.t_value.0)) o.ensures in
    record { t_value = (q.t_value.0, h.0, omega (arith, h.2, l.invariant.2, q.t_value.1), own); point_in_bounds = (omega (arith, r, l.invariant.4, q.t_in_bounds.0), omega (arith, l.invariant.4, l.invariant.5, q.t_in_bounds.1)) }

pub overflow_cast-bounds : goal.overflow_cast-bounds
overflow_cast-bounds c =
    let a = c.args in
    let q = c.requires in
    let l = c.loop-p in
    let h = turn_room a.t.now q.t_value.0 _ l.p l.at l.invariant.1 (omega arith) l.invariant.6 in
    let k = c.put_point-r.ensures in
    omega (arith, k.2, k.0.order₁, k.0.order₂, h.2, h.3)

pub bounds-bounds-p : goal.bounds-bounds-p
bounds-bounds-p c =
    let a = c.args in
    let q = c.requires in
    let l = c.loop-p in
    let h = turn_room a.t.now q.t_value.0 _ l.p l.at l.invariant.1 (omega arith) l.invariant.6 in
    let kept : length l.bounds ≡ length a.bounds.now = l.invariant.3 ∙ simp length-set in
    omega (arith, h.1, kept, q.t_value.2)

pub overflow_cast-bounds-in-loop-p : goal.overflow_cast-bounds-in-loop-p
overflow_cast-bounds-in-loop-p c =
    let a = c.args in
    let q = c.requires in
    let l = c.loop-p in
    let h = turn_room a.t.now q.t_value.0 _ l.p l.at l.invariant.1 (omega arith) l.invariant.6 in
    let k = c.put_point-r.ensures in
    omega (arith, k.2, k.0.order₂, h.2, h.3)

pub bounds-bounds-p-in-loop-p : goal.bounds-bounds-p-in-loop-p
bounds-bounds-p-in-loop-p c =
    let a = c.args in
    let q = c.requires in
    let l = c.loop-p in
    let h = turn_room a.t.now q.t_value.0 _ l.p l.at l.invariant.1 (omega arith) l.invariant.6 in
    let kept : length l.bounds ≡ length a.bounds.now = l.invariant.3 ∙ simp length-set in
    simp length-set (omega (arith, h.1, kept, q.t_value.2))

pub overflow_cast-bounds-in-loop-p-2 : goal.overflow_cast-bounds-in-loop-p-2
overflow_cast-bounds-in-loop-p-2 c =
    let a = c.args in
    let q = c.requires in
    let l = c.loop-p in
    let h = turn_room a.t.now q.t_value.0 _ l.p l.at l.invariant.1 (omega arith) l.invariant.6 in
    let k = c.put_point-r.ensures in
    omega (arith, k.2, h.2, h.3)

pub bounds-bounds-p-in-loop-p-2 : goal.bounds-bounds-p-in-loop-p-2
bounds-bounds-p-in-loop-p-2 c =
    let a = c.args in
    let q = c.requires in
    let l = c.loop-p in
    let h = turn_room a.t.now q.t_value.0 _ l.p l.at l.invariant.1 (omega arith) l.invariant.6 in
    let kept : length l.bounds ≡ length a.bounds.now = l.invariant.3 ∙ simp length-set in
    simp length-set (omega (arith, h.1, kept, q.t_value.2))

pub loop-p-preserved : goal.loop-p-preserved
loop-p-preserved c =
    let a = c.args in
    let q = c.requires in
    let l = c.loop-p in
    let h = turn_room a.t.now q.t_value.0 _ l.p l.at l.invariant.1 (omega arith) l.invariant.6 in
    let kept : length l.bounds ≡ length a.bounds.now = l.invariant.3 ∙ simp length-set in
    let w = c.put_point-r in
    let k = w.ensures in
    let t = table_of a.t.now in
    let fit : 3 * l.p + 3 < length l.bounds = omega (arith, h.1, kept, q.t_value.2) in (
      omega arith,
      l.invariant.1,
      w.auto.plan ∙ l.invariant.2,
      simp length-set kept,
      w.auto.room ∙ l.invariant.4,
      w.auto.sorted ∙ l.invariant.5,
      need_next t _ l.p l.at (omega arith) l.invariant.6 _ k.2,
      next_start l.p l.bounds _ _ _ fit,
      planned_turn l.p l.bounds _ _ _ fit t l.plan w.new.plan l.at l.invariant.8 l.invariant.7 k.0 k.1 w.auto.plan,
    )

pub returns : goal.returns
returns c =
    let a = c.args in
    let l = c.loop-p in
    (all-planned (table_of a.t.now) l.p l.plan l.bounds l.at l.invariant.8 (omega (arith, l.invariant.1)), l.invariant.2, l.invariant.3 ∙ simp length-set)
