-- What is the same for every sample of a table: what each counter is, where each point's counters begin, and how many cover bins it has.
-- Assumes nothing.
use Rattle.std.specs.Prelude.{ℕ, ◌+◌, ◌*◌, ◌≤◌, ◌≡◌, List, length, get_or, take}
use Rattle.model.specs.Table.{Table}
use Rattle.model.specs.Counters.{counters}
use Rattle.model.specs.Register.{point_total, counter_total}
use Rattle.arrays.specs.Flat.{point_starts, cover_counts, kinds_of}
use Rattle.sampling.specs.declared.Index.{Index}

-- an array of n elements has room for one of each counter, and for 256 of each point
abbrev pub Roomy : Table → ℕ → Type 0
Roomy t n = (256 * point_total t ≤ n) × (counter_total t ≤ n)

-- the index is the table's
pub record Indexed (t : Table) (x : Index) : Type 0 where
  pub starts : take (point_total t + 1) x.starts ≡ point_starts t
  pub counts : take (point_total t) x.counts ≡ cover_counts t
  pub starts_sized : length x.starts ≡ 17
  pub counts_sized : length x.counts ≡ 16
  pub points : x.points ≡ point_total t
  pub counters : x.counters ≡ counter_total t

-- the kinds are those of the table's counters
unfoldable pub Labelled : Table → List ℕ → Type 0
Labelled t kinds = take (counter_total t) kinds ≡ kinds_of (counters t)

-- how many words the plan of a table's values takes at most, by its ranges, its points and their counters, which are at least as many as the cover bins
abbrev pub plan_room : ℕ → Index → ℕ
plan_room ranges x = 9 * ranges + 2 * (get_or x.starts x.points 0 + x.points) + 7 * x.points
