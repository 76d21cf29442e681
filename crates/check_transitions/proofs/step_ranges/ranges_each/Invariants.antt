use Prim.Native.Nat.{◌+◌, ◌*◌, ◌≤◌, ◌-◌}
use mathlib.Core.Path.{◌≡◌}
use lib.ListN.{length}
use Rattle.model.specs.Format.{read_transition_ranges, each}
use Rattle.model.specs.Raw.{points_at, transition_heads_at}
use Rattle.words.specs.Verdicts.{verdict_of}
use Rattle.check_transitions.proofs.step_ranges.ranges_each.Given as goal

abbrev pub invariant-loop-i : goal.invariant-loop-i
invariant-loop-i l =
    (l.i ≤ l.fn.bins.count)
    × (l.at ≤ length l.t)
    × (l.bin ≡ l.fn.bins.at + 4 * l.i)
    × (l.sequence ≤ l.q + 255 * l.i)
    × (l.step ≤ l.p + 195075 * l.i)
    × (verdict_of (each (read_transition_ranges l.t (points_at l.t l.points.at l.points.count)) (transition_heads_at l.t l.fn.bins.at l.q l.p l.fn.bins.count) l.start) ≡ verdict_of (each (read_transition_ranges l.t (points_at l.t l.points.at l.points.count)) (transition_heads_at l.t l.bin l.sequence l.step (l.fn.bins.count - l.i)) l.at))
