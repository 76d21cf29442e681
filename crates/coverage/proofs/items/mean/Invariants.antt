-- `coverage::items::mean` meets its contract. Assumes nothing.
use mathlib.Core.Path.{◌≡◌}
use Prim.Native.Nat.{◌-◌, ◌*◌, ◌≤◌}
use Rattle.model.specs.Figures.{item_count}
use Rattle.model.specs.Format.{table_of}
use Rattle.figures.specs.Figures.{items_from, sums, sums_from, AtMostFull}
use Rattle.coverage.specs.Items.{item_with}
use Rattle.coverage.proofs.items.mean.Given as goal

abbrev pub invariant-loop-i : goal.invariant-loop-i
invariant-loop-i l =
    (l.i ≤ item_count (table_of l.t)) × (l.g.weights ≤ 65535 * l.i) × AtMostFull l.g
    × (sums (items_from (item_with (table_of l.t) l.tallies) 0 (item_count (table_of l.t))) ≡ sums_from l.g (items_from (item_with (table_of l.t) l.tallies) l.i (item_count (table_of l.t) - l.i)))
