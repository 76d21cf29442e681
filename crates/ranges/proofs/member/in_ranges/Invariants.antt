use Rattle.std.proofs.Common.{◌≡◌, ◌+◌, ◌-◌, ◌*◌, ◌≤◌}
use Rattle.model.specs.Lists.{any}
use Rattle.model.specs.Values.{in_ranges}
use Rattle.model.specs.Raw.{ranges_at}
use Rattle.ranges.specs.Taken.{holding}
use Rattle.ranges.proofs.member.in_ranges.Given as goal

abbrev pub invariant-loop-i : goal.invariant-loop-i
invariant-loop-i l = (l.i ≤ l.n) × (l.at ≤ l.start + 17 * l.i) × (in_ranges (ranges_at l.t l.start l.n) l.v ≡ any (holding l.v) (ranges_at l.t l.at (l.n - l.i)))
