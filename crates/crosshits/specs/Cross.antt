-- The places of a cross's counters that a sample hits.
-- Assumes nothing.
use Rattle.std.specs.Prelude.{ℕ, ◌+◌, ◌≤◌, ◌≡◌, true, false, List, ◌++◌, length, take, drop}
use Rattle.model.specs.Counters.{cross_counters}
use Rattle.model.specs.Sampling.{Stretches, hits}
use Rattle.model.specs.Format.{byte, table_of}
use Rattle.places.specs.Places.{is_set, places_from, Found}
use Rattle.products.specs.Shapes.{sizes_of, Fits, Stands}
use Rattle.products.specs.Marks.{cross_marks}
use Rattle.crosses.specs.Flags.{heads_at, mask_of, bin_flags}
use Rattle.crosshits.specs.Numbers.{numbers_from, hit_total}
use Rattle.crosshits.specs.Listed.{list_marks, own_places}
use Rattle.crosshits.specs.declared.cross.Cross.{Cross}

-- The numbers of a cross's hit products, and how many they are. f has the hit cover bins of each point.
abbrev pub cross_numbers : List ℕ → List ℕ → Cross → List ℕ
cross_numbers s f x = numbers_from s f (x.place.cross + 1) 0 (sizes_of x.shape)

abbrev pub cross_total : List ℕ → List ℕ → Cross → ℕ
cross_total s f x = hit_total s f (x.place.cross + 1) x.shape.count

-- The cross's guard holds, and xs are the numbers of its hit products: the flags of its bins, and the places of bins and products.
unfoldable pub live_flags : List ℕ → List ℕ → List ℕ → List ℕ → Cross → List ℕ
live_flags s w a xs x =
    let bins = heads_at s x.place.bins (byte s (x.place.cross + 12)) in
    bin_flags w false true (list_marks (mask_of bins) a x.start xs) (list_marks 0 a x.start xs) bins

unfoldable pub live_places : List ℕ → List ℕ → List ℕ → List ℕ → Cross → List ℕ
live_places s w a xs x =
    let flags = live_flags s w a xs x in
    places_from is_set x.first flags ++ own_places a x.start (x.first + length flags) xs

-- those that the sample w hits
abbrev pub cross_hits : List ℕ → List ℕ → Stretches → Cross → List ℕ
cross_hits s w m x = places_from (hits (table_of s) w m) x.first (cross_counters (table_of s) x.place.number)

-- the cross is one of the accepted table s, its marks stand in a from `start` on, and f has the parts that the sample w hits
pub record Given (s w f a : List ℕ) (x : Cross) : Type 0 where
  pub stands : Stands s x.place
  pub fits : Fits (table_of s) x.place.number x.shape
  pub found : Found (table_of s) w f
  pub marks : take x.shape.total (drop x.start a) ≡ cross_marks (table_of s) x.place.number
  pub near : x.start ≤ 65536
  pub low : x.at ≤ x.first
  pub small : x.first + length (cross_counters (table_of s) x.place.number) ≤ 64511
