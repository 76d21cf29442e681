use mathlib.Core.Path.{◌≡◌}
use Prim.Native.Nat.{◌-◌, ◌*◌, ◌≤◌}
use lib.ListN.{length}
use Rattle.spans.specs.Point.{free_value}
use Rattle.parts.specs.Rows.{raise_all}
use Rattle.meets.specs.Pieces.{pieces_at}
use Rattle.meets.specs.Met.{met_parts, reach_end}
use Rattle.meets.proofs.met.meet.Given as goal

abbrev pub invariant-loop-i : goal.invariant-loop-i
invariant-loop-i l =
    (l.i ≤ l.n) × (length l.flags ≡ length l.initial.flags) × (raise_all (met_parts (free_value l.spans l.ask.low) l.ask.lo l.ask.hi (pieces_at l.words (2 * l.i) (l.n - l.i))) l.flags ≡ raise_all (met_parts (free_value l.spans l.ask.low) l.ask.lo l.ask.hi (pieces_at l.words 0 l.n)) l.initial.flags) × (l.reach.from ≡ free_value l.spans l.ask.low l.ask.lo) × (l.reach.end ≡ reach_end l.reach.from l.ask.hi)

abbrev pub decreases-loop-i : goal.decreases-loop-i
decreases-loop-i l = l.n - l.i
