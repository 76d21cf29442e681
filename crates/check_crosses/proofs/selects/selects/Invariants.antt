use Prim.Native.Nat.{◌≤◌, ◌+◌, ◌*◌, ◌-◌}
use mathlib.Core.Path.{◌≡◌}
use lib.ListN.{length}
use Rattle.model.specs.Format.{bin_head, each, read_select}
use Rattle.model.specs.Raw.{rows, points_at, cross_bin_heads_at}
use Rattle.words.specs.Verdicts.{verdict_of}
use Rattle.check_crosses.proofs.selects.selects.Given as goal

abbrev pub invariant-loop-i : goal.invariant-loop-i
invariant-loop-i l = (l.i ≤ l.i-end) × (l.at ≤ length l.t) × (l.bin ≡ l.fn.owned.at + 3 * l.i) × (verdict_of (each (read_select l.t (points_at l.t l.points.at l.points.count) (rows (bin_head l.t) 8 l.bins.at l.bins.count)) (cross_bin_heads_at l.t l.c l.fn.owned.at l.i-end) l.start) ≡ verdict_of (each (read_select l.t (points_at l.t l.points.at l.points.count) (rows (bin_head l.t) 8 l.bins.at l.bins.count)) (cross_bin_heads_at l.t l.c l.bin (l.i-end - l.i)) l.at))
