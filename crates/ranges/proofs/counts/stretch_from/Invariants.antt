use Rattle.std.proofs.Common.{◌+◌, ◌-◌, ◌*◌, ◌≤◌}
use Rattle.model.specs.Raw.{ranges_at}
use Rattle.ranges.proofs.CountLaws.{Nearest}
use Rattle.ranges.proofs.counts.stretch_from.Given as goal

abbrev pub invariant-loop-i : goal.invariant-loop-i
invariant-loop-i l =
    (l.i ≤ l.n) × (l.at ≤ l.start + 17 * l.i) × Nearest (ranges_at l.t l.start l.n) (ranges_at l.t l.at (l.n - l.i)) l.x l.best
