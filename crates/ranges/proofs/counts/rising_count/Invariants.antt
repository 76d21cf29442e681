use Rattle.std.proofs.Common.{◌≡◌, ◌+◌, ◌-◌, ◌*◌, ◌≤◌, min, cond}
use Rattle.model.specs.Ranges.{sizes}
use Rattle.model.specs.Raw.{ranges_at}
use Rattle.ranges.specs.Counts.{rising}
use Rattle.ranges.proofs.CountLaws.{answer_from}
use Rattle.ranges.proofs.counts.rising_count.Given as goal

abbrev pub invariant-loop-i : goal.invariant-loop-i
invariant-loop-i l =
    (l.i ≤ l.n) × (l.at ≤ l.start + 17 * l.i) × (l.count ≤ 257) × (cond (rising (ranges_at l.t l.start l.n) l.low) (min 257 (sizes (ranges_at l.t l.start l.n))) 258 ≡ answer_from (ranges_at l.t l.at (l.n - l.i)) l.x l.count)
