use Prim.Native.Nat.{◌≤◌, ◌-◌}
use mathlib.Core.Path.{◌≡◌}
use lib.ListN.{length}
use Rattle.model.specs.Format.{bin_head, cross_points, read_token, times}
use Rattle.model.specs.Raw.{rows, points_at}
use Rattle.words.specs.Verdicts.{verdict_of}
use Rattle.check_tokens.proofs.tokens.tokens.Given as goal

abbrev pub invariant-loop-i : goal.invariant-loop-i
invariant-loop-i l = (l.i ≤ l.n) × (l.at ≤ length l.t) × (verdict_of (times l.n (read_token l.t (points_at l.t l.points.at l.points.count) (rows (bin_head l.t) 8 l.bins.at l.bins.count) (cross_points l.t l.c)) l.start) ≡ verdict_of (times (l.n - l.i) (read_token l.t (points_at l.t l.points.at l.points.count) (rows (bin_head l.t) 8 l.bins.at l.bins.count) (cross_points l.t l.c)) l.at))
