use mathlib.Core.Path.{◌≡◌}
use Prim.Native.Nat.{◌-◌, ◌*◌, ◌≤◌}
use lib.ListN.{length}
use Rattle.model.specs.Format.{table_of}
use Rattle.arrays.specs.Put.{put}
use Rattle.arrays.specs.Flat.{items_of, all_point_counters, point_start}
use Rattle.points.proofs.ItemLaws.{items_from}
use Rattle.points.proofs.items.put_each.Given as goal

abbrev pub invariant-loop-p : goal.invariant-loop-p
invariant-loop-p l =
    (l.p ≤ l.n) × (length l.items ≡ length l.initial.items) × (l.c ≡ point_start (table_of l.t) l.p) × (l.c ≤ 256 * l.p)
    × (put l.c (items_from (table_of l.t) l.p (l.n - l.p)) l.items ≡ put 0 (items_of (table_of l.t) (all_point_counters (table_of l.t))) l.initial.items)
