use mathlib.Core.Path.{◌≡◌}
use Prim.Native.Nat.{◌-◌, ◌*◌, ◌≤◌}
use lib.ListN.{length}
use Rattle.model.specs.Format.{table_of}
use Rattle.arrays.specs.Put.{put}
use Rattle.arrays.specs.Flat.{total_flags, all_point_counters, point_start}
use Rattle.points.proofs.SpreadLaws.{totals_from}
use Rattle.points.proofs.spread.scatter_each.Given as goal

abbrev pub invariant-loop-p : goal.invariant-loop-p
invariant-loop-p l =
    (l.p ≤ l.n) × (length l.flags ≡ length l.initial.flags) × (l.c ≡ point_start (table_of l.t) l.p) × (l.c ≤ 256 * l.p)
    × (put l.c (totals_from (table_of l.t) l.p (l.n - l.p)) l.flags ≡ put 0 (total_flags (table_of l.t) (all_point_counters (table_of l.t))) l.initial.flags)
