-- The places of a point's counters that a sample hits, and the lists from which they are taken.
-- Assumes nothing.
use Rattle.std.specs.Prelude.{ℕ, ◌+◌, ◌<◌, ◌≡◌, Bool, not, List, [], ◌++◌, map, eqb, length, get_or, take, drop}
use Rattle.model.specs.Lists.{any}
use Rattle.model.specs.Table.{Table}
use Rattle.model.specs.Counters.{value_counters, auto_counters, transition_counters}
use Rattle.model.specs.Sampling.{Stretches, hits}
use Rattle.model.specs.Register.{run_stretches}
use Rattle.arrays.specs.Flat.{all_point_counters, covers, point_start}
use Rattle.places.specs.Places.{places_from, cover_places, plain_places, hit_parts}

-- ---- what is hit

-- of the point's value bins and auto bins: no stretch counts for them
unfoldable pub value_places : Table → List ℕ → ℕ → List ℕ
value_places t w p = places_from (hits t w (run_stretches [])) (point_start t p) (value_counters t p 0 t.value_bins ++ auto_counters t p)

-- where the counters of the point's transition bins begin
unfoldable pub transition_start : Table → ℕ → ℕ
transition_start t p = point_start t p + length (value_counters t p 0 t.value_bins) + length (auto_counters t p)

-- of its transition bins, whose matched lengths are `lens`
unfoldable pub transition_places : Table → List ℕ → List ℕ → ℕ → List ℕ
transition_places t w lens p = places_from (hits t w (run_stretches lens)) (transition_start t p) (transition_counters p 0 t.transition_bins)

-- some word of matched lengths is not 0
unfoldable pub any_length : List ℕ → Bool
any_length lens = any (λ x. not (eqb x 0)) lens

-- of all points' counters
unfoldable pub all_places : Table → List ℕ → Stretches → List ℕ
all_places t w m = places_from (hits t w m) 0 (all_point_counters t)

-- ---- what it is taken from

-- how many cover bins of the point are hit, and then which
pub record FoundOf (t : Table) (w : List ℕ) (p : ℕ) (a : List ℕ) : Type 0 where
  pub count : get_or a 0 0 ≡ length (hit_parts t w p)
  pub parts : take (length (hit_parts t w p)) (drop 1 a) ≡ hit_parts t w p

-- the places of the point's cover bins
unfoldable pub PlacesOf : Table → ℕ → List ℕ → Type 0
PlacesOf t p a = (k : ℕ) → k < length (covers t p) → get_or a k 0 ≡ get_or (cover_places t p) k 0

-- those of its plain bins
unfoldable pub PlainsOf : Table → ℕ → List ℕ → Type 0
PlainsOf t p a = take (length (plain_places t p)) a ≡ plain_places t p

-- the elements of an array with these numbers
unfoldable pub elements_at : List ℕ → List ℕ → List ℕ
elements_at a ks = map (λ k. get_or a k 0) ks

-- n numbers from the second element on are those of elements, of which there are m
unfoldable pub Inside : List ℕ → ℕ → ℕ → Type 0
Inside a n m = (i : ℕ) → i < n → get_or a (1 + i) 0 < m
