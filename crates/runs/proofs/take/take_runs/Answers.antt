use Prim.Native.Nat.{◌<◌}
use lib.ListN.{length}
use Rattle.model.specs.Format.{table_of}
use Rattle.runs.specs.Rows.{SequencesAt, sequence_rows}
use Rattle.runs.proofs.Ready.{few_transitions, words_room, runs_taken, lengths_taken}
use Rattle.runs.proofs.Taking.{binning_start, binning-here, binning-turn, binning-end}
use native.Mathlib.Omega.{arith}
use Rattle.runs.proofs.take.take_runs.Goals as goal

pub loop-i-init : goal.loop-i-init
loop-i-init c =
    let a = c.args in
    binning_start (table_of a.t.now).transition_bins a.readings.now a.plan.now a.q.words a.register.now a.lens.now a.q.rows (unfold SequencesAt sequence_rows in c.requires.t_value.1)

pub take_bin-e-requires : goal.take_bin-e-requires
take_bin-e-requires c =
    let a = c.args in
    let l = c.loop-i in
    let pre = c.requires in
    let h : l.i < length (table_of a.t.now).transition_bins = omega (arith, pre.t_value.2) in
    let at = binning-here (table_of a.t.now).transition_bins a.readings.now a.plan.now a.q.words a.register.now a.lens.now l.i l.place.row l.place.words l.register l.lens l.invariant h
    (words_room a.t.now pre.t_value.0 a.q.words (length a.register.now) pre.in_bounds.3) in
    (pre.t_value.0, pre.in_bounds.0, h, at.0, at.1)

pub offset_bounds-lens-i : goal.offset_bounds-lens-i
offset_bounds-lens-i c = omega (arith, few_transitions c.args.t.now c.requires.t_value.0, c.requires.t_value.2)

pub bounds-lens-i : goal.bounds-lens-i
bounds-lens-i c =
    let a = c.args in
    let pre = c.requires in
    omega (arith, few_transitions a.t.now pre.t_value.0, pre.t_value.2, pre.in_bounds.1, c.loop-i.invariant.kept_lens)

pub loop-i-preserved : goal.loop-i-preserved
loop-i-preserved c =
    let a = c.args in
    let l = c.loop-i in
    let pre = c.requires in
    let e = c.take_bin-e in
    binning-turn (table_of a.t.now).transition_bins a.readings.now a.plan.now a.q.words a.register.now a.lens.now l.i l.place.row l.place.words l.register l.lens l.invariant (omega (arith, pre.t_value.2))
    (words_room a.t.now pre.t_value.0 a.q.words (length a.register.now) pre.in_bounds.3) e.result.next.row e.result.next.words e.result.lengths e.new.register
    e.ensures.row_value.0 e.ensures.row_value.1 e.ensures.register_after.0 e.ensures.register_after.1 (omega (arith, few_transitions a.t.now pre.t_value.0, pre.t_value.2, pre.in_bounds.1, l.invariant.kept_lens))

pub returns : goal.returns
returns c =
    let a = c.args in
    let l = c.loop-i in
    let pre = c.requires in
    let s = a.t.now in
    let e = binning-end (table_of s).transition_bins a.readings.now a.plan.now a.q.words a.register.now a.lens.now l.i l.place.row l.place.words l.register l.lens l.invariant (omega (arith, pre.t_value.2)) in record { by_index = λ w r. runs_taken s pre.t_value.0 w a.readings.now a.q.words a.register.now l.register pre.in_bounds.3 r e.0; lens_after = lengths_taken s pre.t_value.0 a.readings.now a.q.words a.register.now l.register a.lens.now l.lens pre.in_bounds.3 e.0 e.1 }
