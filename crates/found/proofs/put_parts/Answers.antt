use mathlib.Core.Path.{refl}
use Prim.Native.Nat.{◌/◌}
use native.Mathlib.Omega.{arith}
use lib.ListN.{length}
use Rattle.arrays.proofs.Written.{written_start, written_end}
use Rattle.parts.specs.Words.{RowFits, plan_rows_at}
use Rattle.found.specs.Found.{guard_at, new_parts}
use Rattle.found.proofs.PartLaws.{new-start, new-room, new-written, new_end, row_fits}
use Rattle.found.proofs.put_parts.Goals as goal

pub loop-i-init : goal.loop-i-init
loop-i-init c =
    let a = c.args in
    let w = a.rows.now in
    let f = guard_at a.t.now a.sample.now a.origins.now a.bins in
    (omega arith, refl, written_start 1 (new_parts f 0 a.value (plan_rows_at w 0 (length w / 7))) _ a.found.now (new-start f a.value w (length w / 7)))

pub put_part-c-requires : goal.put_part-c-requires
put_part-c-requires c =
    let a = c.args in
    let q = c.requires in
    let l = c.loop-i in
    let w = a.rows.now in
    let f = guard_at a.t.now a.sample.now a.origins.now a.bins in
    let whole = new_parts f 0 a.value (plan_rows_at w 0 (length w / 7)) in
    record { row_in_bounds = (omega arith, q.value_bound.0, q.value_bound.1, row_fits (RowFits 256) w (length w / 7) l.i q.value_bound.2 (omega arith)); row_in_bounds_2 = new-room f a.value w (length w / 7) l.i l.c.next whole a.found.now l.c.at l.found l.invariant.2 q.rows_in_bounds (omega arith) }

pub loop-i-preserved : goal.loop-i-preserved
loop-i-preserved c =
    let a = c.args in
    let q = c.requires in
    let l = c.loop-i in
    let w = a.rows.now in
    let f = guard_at a.t.now a.sample.now a.origins.now a.bins in
    let whole = new_parts f 0 a.value (plan_rows_at w 0 (length w / 7)) in
    let k = c.put_part-c in
    (omega arith, l.invariant.1, new-written f a.value w (length w / 7) l.i l.c.next whole a.found.now l.c.at l.found l.invariant.2 q.rows_in_bounds (omega arith) k.result.next k.result.at k.new.found k.ensures.at_value.1 k.ensures.at_value.0 k.ensures.found_after)

pub overflow_sub-result : goal.overflow_sub-result
overflow_sub-result c =
    let a = c.args in
    let l = c.loop-i in
    let w = a.rows.now in
    let f = guard_at a.t.now a.sample.now a.origins.now a.bins in
    let whole = new_parts f 0 a.value (plan_rows_at w 0 (length w / 7)) in
    let e = written_end 1 whole a.found.now l.c.at l.found _ l.invariant.2 (new_end f a.value w _ l.i l.c.next (omega arith)) in
    omega (arith, e.0)

pub returns : goal.returns
returns c =
    let a = c.args in
    let l = c.loop-i in
    let w = a.rows.now in
    let f = guard_at a.t.now a.sample.now a.origins.now a.bins in
    let whole = new_parts f 0 a.value (plan_rows_at w 0 (length w / 7)) in
    let e = written_end 1 whole a.found.now l.c.at l.found _ l.invariant.2 (new_end f a.value w _ l.i l.c.next (omega arith)) in
    (omega (arith, e.0), e.1)
