-- The stages of making the lists.
-- Assumes nothing.
use Rattle.std.specs.Prelude.{ℕ, ◌+◌, ◌≡◌, List, ◌∷◌, ◌++◌, length, get_or, take, drop}
use Rattle.model.specs.Table.{Table}
use Rattle.model.specs.Register.{point_total}
use Rattle.arrays.specs.Flat.{point_starts, cover_counts}
use Rattle.places.specs.Places.{of_kind, places_from, PlaceRows, illegal_places}
use Rattle.lists.specs.Lists.{places_at, starts_at, illegals_at, counts_at}

-- A point's row, by the kinds of its counters, the first of which has place base: how many are plain bins, how many are cover bins, the places of these, then of those.
unfoldable pub row_of : ℕ → List ℕ → List ℕ
row_of base kinds = length (places_from (of_kind 1) base kinds) ∷ length (places_from (of_kind 0) base kinds) ∷ (places_from (of_kind 0) base kinds ++ places_from (of_kind 1) base kinds)

-- the lists from the places to the counts
pub record Listed (t : Table) (lists : List ℕ) : Type 0 where
  pub places : PlaceRows t (drop (places_at (point_total t)) lists)
  pub starts : take (point_total t + 1) (drop (starts_at (point_total t)) lists) ≡ point_starts t
  pub illegals : get_or lists (illegals_at (point_total t)) 0 ≡ length (illegal_places t)
  pub illegal : take (length (illegal_places t)) (drop (illegals_at (point_total t) + 1) lists) ≡ illegal_places t
  pub counts : take (point_total t) (drop (counts_at t) lists) ≡ cover_counts t
