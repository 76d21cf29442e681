use Prim.Native.Nat.{◌≤◌, ◌+◌, ◌*◌, ◌-◌}
use mathlib.Core.Path.{◌≡◌}
use mathlib.Core.Bool.{true}
use Rattle.model.specs.Lists.{all}
use Rattle.model.specs.Raw.{rows}
use Rattle.limits.specs.Bins.{added, Entries, here, place_point, place_singles, place_bars, point_below}
use Rattle.limits.proofs.transitions.add_transitions.Given as goal

abbrev pub invariant-loop-i : goal.invariant-loop-i
invariant-loop-i l =
    (l.i ≤ l.fn.l.transition_count) × (l.at ≤ l.fn.l.transitions + 4 * l.i) × Entries (1000 + l.i) l.counts.singles × Entries (1000 + l.i) l.counts.bars × (all (point_below l.t 16) (rows here 4 l.at (l.fn.l.transition_count - l.i)) ≡ true)
    × (added (place_point l.t) (place_singles l.t) (rows here 4 l.fn.l.transitions l.fn.l.transition_count) l.initial.counts.singles ≡ added (place_point l.t) (place_singles l.t) (rows here 4 l.at (l.fn.l.transition_count - l.i)) l.counts.singles)
    × (added (place_point l.t) (place_bars l.t) (rows here 4 l.fn.l.transitions l.fn.l.transition_count) l.initial.counts.bars ≡ added (place_point l.t) (place_bars l.t) (rows here 4 l.at (l.fn.l.transition_count - l.i)) l.counts.bars)
    × (l.counts.covers ≡ l.initial.counts.covers)
