use mathlib.Core.Path.{◌≡◌}
use Prim.Native.Nat.{suc, ◌-◌, ◌≤◌}
use Rattle.spans.specs.Point.{free_value}
use Rattle.meets.specs.Met.{pattern_met}
use Rattle.meets.proofs.met.pattern_met.Given as goal

abbrev pub invariant-loop-v : goal.invariant-loop-v
invariant-loop-v l =
    (l.ask.low ≤ l.v) × (pattern_met (free_value l.spans l.ask.low) l.bits l.mask l.v l.ask.hi ≡ pattern_met (free_value l.spans l.ask.low) l.bits l.mask l.ask.lo l.ask.hi)

abbrev pub decreases-loop-v : goal.decreases-loop-v
decreases-loop-v l = suc l.ask.hi - l.v
