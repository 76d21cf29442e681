use Prim.Native.Nat.{◌≤◌, ◌+◌, ◌*◌, ◌-◌}
use mathlib.Core.Path.{◌≡◌}
use lib.ListN.{length}
use Rattle.model.specs.Format.{bin_head, each, read_selects}
use Rattle.model.specs.Raw.{rows, points_at, cross_heads_at}
use Rattle.words.specs.Verdicts.{verdict_of}
use Rattle.check_crosses.proofs.selects.all_selects.Given as goal

abbrev pub invariant-loop-i : goal.invariant-loop-i
invariant-loop-i l = (l.i ≤ l.i-end) × (l.at ≤ length l.t) × (l.cross ≡ l.fn.crosses.at + 13 * l.i) × (l.bin ≤ l.b + 765 * l.i) × (verdict_of (each (read_selects l.t (points_at l.t l.points.at l.points.count) (rows (bin_head l.t) 8 l.bins.at l.bins.count)) (cross_heads_at l.t l.fn.crosses.at l.b l.i-end) l.start) ≡ verdict_of (each (read_selects l.t (points_at l.t l.points.at l.points.count) (rows (bin_head l.t) 8 l.bins.at l.bins.count)) (cross_heads_at l.t l.cross l.bin (l.i-end - l.i)) l.at))
