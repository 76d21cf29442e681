use Rattle.std.proofs.Common.{◌≡◌, ◌+◌, ◌-◌, ◌*◌, ◌≤◌}
use Rattle.ranges.specs.Types.{spans_in}
use Rattle.ranges.proofs.spans_in.Given as goal

abbrev pub invariant-loop-i : goal.invariant-loop-i
invariant-loop-i l = (l.i ≤ l.n) × (l.at ≡ l.start + 17 * l.i) × (spans_in l.t l.l l.n l.start ≡ spans_in l.t l.l (l.n - l.i) l.at)
