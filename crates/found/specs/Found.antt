-- The parts of a point (cover bins after expansion, or auto bins) that a value falls into and whose guards hold, each once.
-- Assumes nothing.
use Rattle.std.specs.Prelude.{ℕ, ◌+◌, ◌*◌, ◌<◌, ◌≡◌, Bool, true, ◌&&◌, ◌||◌, cond, List, [], ◌∷◌, ◌++◌, leb, eqb, length, get_or}
use Rattle.model.specs.Table.{Table}
use Rattle.model.specs.Values.{in_range, lowest}
use Rattle.model.specs.Counters.{no_cover_bin, point_at}
use Rattle.model.specs.Sampling.{guard_true, reading}
use Rattle.model.specs.Format.{byte, guard_from, accepted, table_of}
use Rattle.model.specs.Raw.{records_place}
use Rattle.model.specs.Register.{point_total, in_widths}
use Rattle.arrays.specs.Flat.{covers, origin, reading_code}
use Rattle.parts.specs.Rows.{Row, part_in}
use Rattle.places.specs.Places.{place_if}
use Rattle.found.specs.declared.PointReading.{PointReading}

-- r is what the sample w reads of a point of the accepted table s
pub record Reads (s w : List ℕ) (r : PointReading) : Type 0 where
  pub good : accepted s ≡ true
  pub own : r.point < point_total (table_of s)
  pub widths : in_widths (table_of s) w ≡ true
  pub code : r.reading ≡ reading_code (reading (table_of s) w r.point)
  pub low : r.low ≡ lowest (point_at (table_of s) r.point)
  pub bins : r.bins ≡ records_place s 1

-- the array has the origin of each cover bin of point p
unfoldable pub OriginsAt : Table → ℕ → List ℕ → Type 0
OriginsAt t p a = (k : ℕ) → k < length (covers t p) → get_or a k 0 ≡ origin (get_or (covers t p) k no_cover_bin)

-- the guard in the record of value bin b holds; an auto bin (65,535) has none
unfoldable pub bin_guard : List ℕ → List ℕ → ℕ → ℕ → Bool
bin_guard s w bins b = eqb b 65535 || guard_true w (guard_from (byte s (bins + 8 * b + 5)))

-- that of the value bin that part k comes of
abbrev pub guard_at : List ℕ → List ℕ → List ℕ → ℕ → ℕ → Bool
guard_at s w origins bins k = bin_guard s w bins (get_or origins k 0)

-- ---- parts do not fall along the rows, so that a new part is at least `next`; f says which guards hold

-- the row holds the value, and its part is a new one whose guard holds
unfoldable pub taken : (ℕ → Bool) → ℕ → ℕ → Row → Bool
taken f next v r = in_range r.range v && (leb next (part_in r v) && f (part_in r v))

-- that part
unfoldable pub new_part : (ℕ → Bool) → ℕ → ℕ → Row → List ℕ
new_part f next v r = place_if (taken f next v r) (part_in r v)

-- the least part that may be new after the row
unfoldable pub next_part : (ℕ → Bool) → ℕ → ℕ → Row → ℕ
next_part f next v r = cond (taken f next v r) (part_in r v + 1) next

-- those of some rows
unfoldable pub new_parts : (ℕ → Bool) → ℕ → ℕ → List Row → List ℕ
new_parts f next v [] = []
new_parts f next v (r ∷ rs) = new_part f next v r ++ new_parts f (next_part f next v r) v rs
