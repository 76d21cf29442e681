-- The places of elements: a list of numbers, where few of many elements matter.
-- Assumes nothing.
use Rattle.std.specs.Prelude.{ℕ, suc, ◌+◌, ◌*◌, ◌<◌, ◌≡◌, Bool, true, ◌&&◌, ◌||◌, cond, List, [], ◌∷◌, leb, eqb, length, get_or, take, drop}
use Rattle.model.specs.Table.{Table}
use Rattle.model.specs.Counters.{Counter, counters, point_counters}
use Rattle.model.specs.Sampling.{Stretches, cover_hit, hits}
use Rattle.model.specs.Register.{point_total}
use Rattle.arrays.specs.Flat.{kind_of, covers, point_start}

-- the place, if b says so
abbrev pub place_if : Bool → ℕ → List ℕ
place_if b n = cond b (n ∷ []) []

-- the places of the elements of which f is true; the first element has place n
unfoldable pub places_from : {A : Type 0} → (A → Bool) → ℕ → List A → List ℕ
places_from f n [] = []
places_from f n (x ∷ xs) = cond (f x) (n ∷ places_from f (suc n) xs) (places_from f (suc n) xs)

-- a flag that is set
abbrev pub is_set : ℕ → Bool
is_set x = eqb x 1

-- what a byte's test answers is g
abbrev pub Decides : (ℕ → Bool → Type 0) → (ℕ → Bool) → Type 0
Decides post g = (x : ℕ) (b : Bool) → x < 256 → post x b → b ≡ g x

-- the kinds of counters (Flat's kind_of) that a list may be of: 0 cover bins, 1 default and illegal value bins, 2 all illegal ones
abbrev pub of_kind : ℕ → ℕ → Bool
of_kind which k = (eqb which 0 && eqb k 0) || ((eqb which 1 && (eqb k 1 || eqb k 2)) || (eqb which 2 && (eqb k 2 || (eqb k 4 || eqb k 6))))

-- numbers from x up, each above the one before
unfoldable pub ascending : ℕ → List ℕ → Bool
ascending x [] = true
ascending x (y ∷ ys) = leb x y && ascending (suc y) ys

-- ---- counters

-- those that the sample hits
unfoldable pub hit_places : Table → List ℕ → Stretches → List ℕ
hit_places t s m = places_from (hits t s m) 0 (counters t)

abbrev pub is_cover_counter : Counter → Bool
is_cover_counter c = eqb (kind_of c) 0

-- the places of a point's cover bins
unfoldable pub cover_places : Table → ℕ → List ℕ
cover_places t p = places_from is_cover_counter (point_start t p) (point_counters t p)

-- a default bin or an illegal value bin
abbrev pub is_plain : Counter → Bool
is_plain c = of_kind 1 (kind_of c)

-- the places of a point's plain bins
unfoldable pub plain_places : Table → ℕ → List ℕ
plain_places t p = places_from is_plain (point_start t p) (point_counters t p)

-- A point's row has 258 elements: how many plain bins and how many cover bins it has, the places of its cover bins, then those of its plain bins.
pub record PlaceRow (t : Table) (p : ℕ) (a : List ℕ) : Type 0 where
  pub plains : get_or a 0 0 ≡ length (plain_places t p)
  pub parts : get_or a 1 0 ≡ length (covers t p)
  pub of_covers : (k : ℕ) → k < length (covers t p) → get_or a (2 + k) 0 ≡ get_or (cover_places t p) k 0
  pub of_plains : take (length (plain_places t p)) (drop (2 + length (covers t p)) a) ≡ plain_places t p

-- one row after another
unfoldable pub PlaceRows : Table → List ℕ → Type 0
PlaceRows t a = (p : ℕ) → p < point_total t → PlaceRow t p (drop (258 * p) a)

-- the places of all illegal counters
unfoldable pub illegal_places : Table → List ℕ
illegal_places t = places_from (λ c. of_kind 2 (kind_of c)) 0 (counters t)

-- ---- the cover bins of a point

-- those that the sample hits, by their numbers among the point's
unfoldable pub hit_parts : Table → List ℕ → ℕ → List ℕ
hit_parts t s p = places_from (cover_hit t s) 0 (covers t p)

-- the array has 257 elements for each point: how many of its cover bins are hit, and then which
pub record FoundAt (t : Table) (s : List ℕ) (a : List ℕ) (p : ℕ) : Type 0 where
  pub count : get_or a (257 * p) 0 ≡ length (hit_parts t s p)
  pub parts : take (length (hit_parts t s p)) (drop (257 * p + 1) a) ≡ hit_parts t s p

unfoldable pub Found : Table → List ℕ → List ℕ → Type 0
Found t s a = (p : ℕ) → p < point_total t → FoundAt t s a p
