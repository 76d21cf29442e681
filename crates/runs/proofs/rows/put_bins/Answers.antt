use mathlib.Core.List.{◌∷◌}
use Prim.Native.Nat.{◌+◌, ◌-◌, ◌*◌, ◌<◌}
use lib.ListN.{length}
use Rattle.model.specs.Lists.{concat_of}
use Rattle.model.specs.Raw.{sequences_at, transitions_at}
use Rattle.arrays.proofs.Written.{written_start, written_end, written-turn}
use Rattle.runs.specs.Rows.{sequence_row, bin_row}
use Rattle.runs.proofs.Walks.{bins_rows_start, bins_start, bins-here, bins-room, bins_turn, bins-rows-turn, bins-rows-none}
use native.Mathlib.Omega.{arith}
use Rattle.runs.proofs.rows.put_bins.Goals as goal

pub loop-i-init : goal.loop-i-init
loop-i-init c =
    let a = c.args in
    let s = a.t.now in
    let l = a.l in
    (bins_start s l.transitions l.sequences l.steps l.step_ranges l.transition_count c.requires.transition_count_value.0, written_start a.at _ _ a.plan.now (bins_rows_start s l.transitions l.sequences l.steps l.step_ranges l.transition_count))

pub put_bin-place-requires : goal.put_bin-place-requires
put_bin-place-requires c =
    let a = c.args in
    let s = a.t.now in
    let t = a.l in
    let l = c.loop-i in
    let k = c.byte-k in
    let point = c.byte in
    let h : l.i < t.transition_count = omega arith in
    let fit = bins-here s t.transitions t.sequences t.steps t.step_ranges t.transition_count l.i l.sequence l.place.steps l.place.ranges l.invariant.0 h k.result k.ensures in
    let room = bins-room s t.transitions t.sequences t.steps t.step_ranges t.transition_count l.i l.sequence l.place.steps l.place.ranges l.invariant.0 h k.result k.ensures point.result point.ensures
    l.place.at a.at _ (length l.plan) l.invariant.1.place (omega (arith, l.invariant.1.kept, c.requires.transition_count_value.1)) in
    record { q_bound = (omega arith, omega arith, omega arith, fit); n_in_bounds = room }

pub loop-i-preserved : goal.loop-i-preserved
loop-i-preserved c =
    let a = c.args in
    let s = a.t.now in
    let t = a.l in
    let l = c.loop-i in
    let k = c.byte-k in
    let point = c.byte in
    let w = c.put_bin-place in
    let e = w.result in
    let h : l.i < t.transition_count = omega arith in
    let xs = concat_of sequence_row (sequences_at s l.sequence l.place.steps l.place.ranges k.result) in (
      bins_turn s t.transitions t.sequences t.steps t.step_ranges t.transition_count l.i l.sequence l.place.steps l.place.ranges l.invariant.0 h k.result k.ensures e.steps e.ranges w.ensures.past (omega arith),
      written-turn a.at (concat_of bin_row (transitions_at s t.transitions t.sequences t.steps t.step_ranges t.transition_count)) a.plan.now l.place.at l.plan (concat_of bin_row (transitions_at s (t.transitions + 4 * l.i) l.sequence l.place.steps l.place.ranges (t.transition_count - l.i))) l.invariant.1 c.requires.transition_count_value.1
          (point.result ∷ k.result ∷ xs) (concat_of bin_row (transitions_at s (t.transitions + 4 * (l.i + 1)) (l.sequence + k.result) e.steps e.ranges (t.transition_count - (l.i + 1))))
          (bins-rows-turn s t.transitions t.sequences t.steps t.step_ranges t.transition_count l.i l.sequence l.place.steps l.place.ranges l.invariant.0 h k.result k.ensures e.steps e.ranges w.ensures.past point.result point.ensures)
          e.at w.new.plan (omega (arith, w.ensures.at_value.0)) w.ensures.at_value.1,
    )

pub returns : goal.returns
returns c =
    let a = c.args in
    let t = a.l in
    let l = c.loop-i in
    written_end a.at _ a.plan.now l.place.at l.plan _ l.invariant.1 (bins-rows-none a.t.now t.transitions t.sequences t.steps t.step_ranges t.transition_count l.i l.sequence l.place.steps l.place.ranges l.invariant.0 (omega arith))
