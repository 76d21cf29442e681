-- Weights and at-leasts of items, by the places of their records: n points from p on, m crosses from c on.
-- Assumes nothing.
use Rattle.std.specs.Prelude.{ℕ, ◌+◌, ◌-◌, ◌*◌, ◌≤◌, ◌<◌, ◌≡◌, cond, List, map, ltb, get_or}
use Rattle.model.specs.Lists.{up_from}
use Rattle.model.specs.Table.{Table}
use Rattle.model.specs.Figures.{Item, item_count, at_least, weight, group_of}
use Rattle.model.specs.Format.{u16, u32}
use Rattle.model.specs.Raw.{records_place, record_count}
use Rattle.figures.specs.Figures.{item, items_from, group_case}
use Rattle.std.specs.Prelude as std
use Rattle.coverage.specs.declared.records.ItemRecords.{ItemRecords}
use Rattle.tallies.specs.Tallies.{no_tally}
use Rattle.tallies.specs.declared.ItemTally.{ItemTally}

-- the records of the table
pub record RecordsOf (s : List ℕ) (r : ItemRecords) : Type 0 where
  pub points : r.points ≡ records_place s 0
  pub point_count : r.point_count ≡ record_count s 0
  pub crosses : r.crosses ≡ records_place s 7
  pub cross_count : r.cross_count ≡ record_count s 7

unfoldable pub least_at : List ℕ → ℕ → ℕ → ℕ → ℕ → ℕ → ℕ
least_at s p n c m i = cond (ltb i n) (u32 s (p + 11 * i + 5)) (cond (ltb (i - n) m) (u32 s (c + 13 * (i - n) + 8)) 1)

unfoldable pub weight_at : List ℕ → ℕ → ℕ → ℕ → ℕ → ℕ → ℕ
weight_at s p n c m i = cond (ltb i n) (u16 s (p + 11 * i + 3)) (cond (ltb (i - n) m) (u16 s (c + 13 * (i - n) + 6)) 0)

-- the at-leasts of a table's items
unfoldable pub leasts_of : Table → List ℕ
leasts_of t = map (at_least t) (up_from 0 (item_count t))

-- an item by its tally
abbrev pub item_tallied : ℕ → ItemTally → Item
item_tallied weight r = item weight r.total r.covered

abbrev pub item_with : Table → List ItemTally → ℕ → Item
item_with t rs i = item_tallied (weight t i) (get_or rs i no_tally)

-- the group's figure from the tallies
unfoldable pub mean_of : Table → List ItemTally → std.Option ℕ
mean_of t rs = group_case (group_of (items_from (item_with t rs) 0 (item_count t)))

-- no item of n has more covered counters than counters
unfoldable pub Within : ℕ → List ItemTally → Type 0
Within n rs = (j : ℕ) → j < n → (get_or rs j no_tally).covered ≤ (get_or rs j no_tally).total
