-- `coverage::items::put_leasts` meets its contract. Assumes nothing.
use mathlib.Core.Path.{◌≡◌}
use mathlib.Core.List.{map}
use Prim.Native.Nat.{◌-◌, ◌≤◌}
use lib.ListN.{length}
use Rattle.model.specs.Lists.{up_from}
use Rattle.model.specs.Figures.{item_count, at_least}
use Rattle.model.specs.Format.{table_of}
use Rattle.arrays.specs.Put.{put}
use Rattle.coverage.specs.Items.{leasts_of}
use Rattle.coverage.proofs.items.put_leasts.Given as goal

abbrev pub invariant-loop-i : goal.invariant-loop-i
invariant-loop-i l =
    (l.i ≤ item_count (table_of l.t)) × (length l.leasts ≡ length l.initial.leasts)
    × (put l.i (map (at_least (table_of l.t)) (up_from l.i (item_count (table_of l.t) - l.i))) l.leasts ≡ put 0 (leasts_of (table_of l.t)) l.initial.leasts)
