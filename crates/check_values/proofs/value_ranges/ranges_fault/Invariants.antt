use Prim.Native.Nat.{◌≤◌, ◌+◌, ◌*◌, ◌-◌}
use mathlib.Core.Path.{◌≡◌}
use lib.ListN.{length}
use Rattle.model.specs.Format.{each, read_bin_ranges, bin_head}
use Rattle.words.specs.Verdicts.{verdict_of}
use Rattle.model.specs.Raw.{rows, points_at}
use Rattle.check_values.proofs.value_ranges.ranges_fault.Given as goal

abbrev pub invariant-loop-i : goal.invariant-loop-i
invariant-loop-i l = (l.i ≤ l.fn.bins.count) × (l.at ≤ length l.t) × (l.bin ≡ l.fn.bins.at + 8 * l.i) × (verdict_of (each (read_bin_ranges l.t (points_at l.t l.points.at l.points.count)) (rows (bin_head l.t) 8 l.fn.bins.at l.fn.bins.count) l.start) ≡ verdict_of (each (read_bin_ranges l.t (points_at l.t l.points.at l.points.count)) (rows (bin_head l.t) 8 l.bin (l.fn.bins.count - l.i)) l.at))
