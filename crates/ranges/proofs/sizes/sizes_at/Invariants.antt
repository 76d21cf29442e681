use Rattle.std.proofs.Common.{◌≡◌, ◌+◌, ◌-◌, ◌*◌, ◌≤◌}
use Rattle.model.specs.Ranges.{sizes}
use Rattle.model.specs.Raw.{ranges_at}
use Rattle.ranges.proofs.sizes.sizes_at.Given as goal

abbrev pub invariant-loop-i : goal.invariant-loop-i
invariant-loop-i l =
    (l.i ≤ l.n) × (l.at ≤ l.start + 17 * l.i) × (l.sum ≤ 1152921504606846976) × (sizes (ranges_at l.t l.start l.n) ≡ l.sum + sizes (ranges_at l.t l.at (l.n - l.i)))
