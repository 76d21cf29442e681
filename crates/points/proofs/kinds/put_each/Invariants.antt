use mathlib.Core.Path.{◌≡◌}
use Prim.Native.Nat.{suc, ◌-◌, ◌*◌, ◌≤◌}
use lib.ListN.{length}
use Rattle.model.specs.Format.{table_of}
use Rattle.arrays.specs.Put.{put}
use Rattle.arrays.specs.Flat.{kinds_of, all_point_counters, point_start, point_starts}
use Rattle.points.proofs.KindExact.{kinds_from, starts_from}
use Rattle.points.proofs.kinds.put_each.Given as goal

abbrev pub invariant-loop-p : goal.invariant-loop-p
invariant-loop-p l =
    (l.p ≤ l.n) × (length l.kinds ≡ length l.initial.kinds) × (length l.starts ≡ length l.initial.starts) × (l.c ≡ point_start (table_of l.t) l.p) × (l.c ≤ 256 * l.p)
    × (put l.c (kinds_from (table_of l.t) l.p (l.n - l.p)) l.kinds ≡ put 0 (kinds_of (all_point_counters (table_of l.t))) l.initial.kinds)
    × (put l.p (starts_from (table_of l.t) l.p (suc l.n - l.p)) l.starts ≡ put 0 (point_starts (table_of l.t)) l.initial.starts)
