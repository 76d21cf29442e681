use Rattle.std.proofs.Common.{◌≡◌, ◌+◌, ◌-◌, ◌*◌, ◌≤◌, min}
use Rattle.model.specs.Ranges.{next_in}
use Rattle.model.specs.Raw.{ranges_at}
use Rattle.ranges.proofs.next.next_in.Given as goal

abbrev pub invariant-loop-i : goal.invariant-loop-i
invariant-loop-i l =
    (l.i ≤ l.n) × (l.at ≤ l.start + 17 * l.i) × (l.best ≤ 8589934592) × (next_in (ranges_at l.t l.start l.n) l.x ≡ min l.best (next_in (ranges_at l.t l.at (l.n - l.i)) l.from))
