use Rattle.std.proofs.Common.{◌≡◌, ◌+◌, ◌-◌, ◌≤◌, length}
use Rattle.model.specs.Ranges.{ascending}
use Rattle.model.specs.Raw.{ranges_at}
use Rattle.ranges.proofs.counts.stretch_count.Given as goal

abbrev pub invariant-loop-count : goal.invariant-loop-count
invariant-loop-count l =
    (l.count ≤ 257) × (l.x ≤ 8589934592) × (length (ascending 257 (ranges_at l.t l.start l.n) l.low) ≡ l.count + length (ascending (257 - l.count) (ranges_at l.t l.start l.n) l.x))

abbrev pub decreases-loop-count : goal.decreases-loop-count
decreases-loop-count l = 257 - l.count
