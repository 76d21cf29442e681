use Prim.Native.Nat.{◌≤◌, ◌+◌, ◌*◌, ◌-◌}
use mathlib.Core.Path.{◌≡◌}
use Rattle.model.specs.Format.{bin_head, ranges_owned}
use Rattle.words.specs.Sums.{sum_from}
use Rattle.check_values.proofs.value_ranges.owned_ranges.Given as goal

abbrev pub invariant-loop-i : goal.invariant-loop-i
invariant-loop-i l = (l.i ≤ l.fn.bins.count) × (l.at ≡ l.fn.bins.at + 8 * l.i) × (l.sum ≤ 65535 * l.i) × (sum_from 0 ranges_owned (bin_head l.t) 8 l.fn.bins.at l.fn.bins.count ≡ sum_from l.sum ranges_owned (bin_head l.t) 8 l.at (l.fn.bins.count - l.i))
