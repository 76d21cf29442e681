use mathlib.Core.Path.{◌≡◌}
use mathlib.Core.List.{[]}
use Prim.Native.Nat.{◌+◌, ◌≤◌}
use lib.ListN.{length, get_or}
use Rattle.model.specs.Lists.{concat_of}
use Rattle.model.specs.Sampling.{run_length}
use Rattle.model.specs.Counters.{transition_bin_at}
use Rattle.model.specs.Format.{table_of}
use Rattle.runs.specs.Rows.{sequence_row, bin_row, Stands}
use Rattle.runs.proofs.Ready.{point_few, sequences_fit}
use Rattle.runs.proofs.RowLaws.{length-row}
use Rattle.runs.proofs.Standing.{RowAt, row_fits, bin_at}
use Rattle.runs.proofs.Taking.{taking_start, taking-here, taking-turn, taking-end, bin-taken}
use native.Mathlib.Omega.{arith}
use Rattle.runs.proofs.take.take_bin.Goals as goal
use Rattle.runs.proofs.take.take_bin.Goals.{In-loop-i, Start}

-- the words of the bin's row
at_head : (c : Start) →
    let a = c.args in
    let w = a.plan.now in
    let at = a.place.row in
    let b = transition_bin_at (table_of a.t.now) a.b in
    (get_or w at 0 ≡ b.point) × (get_or w (at + 1) 0 ≡ length b.sequences) × Stands w (at + 2) (concat_of sequence_row b.sequences) × (at + 2 + length (concat_of sequence_row b.sequences) ≡ at + length (bin_row b))
at_head c = bin_at c.args.plan.now c.args.place.row (transition_bin_at (table_of c.args.t.now) c.args.b) c.requires.3

-- what is known of the sequence at hand
here : (c : In-loop-i) →
    let a = c.args in
    let l = c.loop-i in
    let ss = get_or (transition_bin_at (table_of a.t.now) a.b).sequences l.i [] in
    RowAt a.plan.now l.next.row ss × (length ss ≤ 16) × (run_length ss ≤ 32) × (l.next.words + run_length ss ≤ length l.register) × Stands a.plan.now l.next.row (sequence_row ss)
here c =
    let a = c.args in
    let l = c.loop-i in
    taking-here (transition_bin_at (table_of a.t.now) a.b).sequences _ a.plan.now (a.place.row + 2) a.place.words a.register.now l.i l.next.row l.next.words l.lengths l.register l.invariant (omega (arith, (at_head c.before.before.before.before.before.before.before.before.before).1)) c.requires.4

pub bounds-plan-from : goal.bounds-plan-from
bounds-plan-from c = omega (arith, c.requires.3.1, (at_head (goal.at.bounds-plan-from c).Start).3)

pub offset_bounds-readings-plan : goal.offset_bounds-readings-plan
offset_bounds-readings-plan c =
    omega (arith, (at_head (goal.at.offset_bounds-readings-plan c).Start).0, point_few c.args.t.now c.requires.0 c.args.b c.requires.2)

pub bounds-readings-plan : goal.bounds-readings-plan
bounds-readings-plan c =
    let a = c.args in
    let pre = c.requires in
    omega (arith, (at_head (goal.at.bounds-readings-plan c).Start).0, point_few a.t.now pre.0 a.b pre.2, pre.1)

pub overflow_add-n : goal.overflow_add-n
overflow_add-n c = omega (arith, c.requires.3.1, (at_head (goal.at.overflow_add-n c).Start).3)

pub bounds-plan-from-2 : goal.bounds-plan-from-2
bounds-plan-from-2 c = omega (arith, c.requires.3.1, (at_head (goal.at.bounds-plan-from-2 c).Start).3)

pub overflow_add-next : goal.overflow_add-next
overflow_add-next c = omega (arith, c.requires.3.1, (at_head (goal.at.overflow_add-next c).Start).3)

pub loop-i-init : goal.loop-i-init
loop-i-init c =
    let a = c.args in
    let pre = c.requires in
    taking_start (transition_bin_at (table_of a.t.now) a.b).sequences _ a.plan.now (a.place.row + 2) a.place.words a.register.now (at_head (goal.at.loop-i-init c).Start).2 (sequences_fit a.t.now pre.0 a.b pre.2)

pub take_row-e-requires : goal.take_row-e-requires
take_row-e-requires c =
    let l = c.loop-i in
    let h = here (goal.at.take_row-e-requires c).In-loop-i in
    (row_fits _ l.next.row _ h.0 h.1 h.2, omega (arith, h.0.words, h.3))

pub loop-i-preserved : goal.loop-i-preserved
loop-i-preserved c =
    let a = c.args in
    let l = c.loop-i in
    let e = c.take_row-e in
    let sss = (transition_bin_at (table_of a.t.now) a.b).sequences in
    let ss = get_or sss l.i [] in
    let own = (here (goal.at.loop-i-preserved c).In-loop-i).4 in
    let places = e.ensures.row_value ss own in
    let written = e.ensures.register_after ss own in
    taking-turn sss _ a.plan.now (a.place.row + 2) a.place.words a.register.now l.i l.next.row l.next.words l.lengths l.register l.invariant
    (omega (arith, (at_head (goal.at.loop-i-preserved c).Start).1)) c.requires.4 e.result.next.row e.result.next.words e.result.lengths e.new.register
    (omega (arith, places.0, length-row ss)) places.1 written.0 written.1

pub returns : goal.returns
returns c =
    let a = c.args in
    let l = c.loop-i in
    let b = transition_bin_at (table_of a.t.now) a.b in
    let at = at_head (goal.at.returns c).Start in
    let whole = bin-taken b a.readings.now _ a.place.row l.next.row a.place.words l.next.words l.lengths a.register.now l.register at.0 at.3
    (taking-end b.sequences _ a.plan.now (a.place.row + 2) a.place.words a.register.now l.i l.next.row l.next.words l.lengths l.register l.invariant (omega (arith, at.1))) in record { row_value = whole.0; register_after = whole.1 }
