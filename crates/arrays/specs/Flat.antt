-- Flat arrays: one element for each counter of a table, in the register's order; one for each cover bin of a point; one for each point's reading.
-- Assumes nothing.
use Rattle.std.specs.Prelude.{ℕ, zero, suc, ◌+◌, ◌*◌, ◌<◌, ◌≡◌, Bool, true, ◌&&◌, cond, List, map, eqb, length, get_or, take}
use Rattle.model.specs.Lists.{up_from, all, concat_of, as_bit, bits_from}
use Rattle.model.specs.Table.{Table}
use Rattle.model.specs.Counters.{CoverBin, listed, auto, Counter, value_bin, default_bin, illegal_bin, transition, illegal_transition, cross_bin, illegal_cross, product, no_cover_bin, cross_at, cross_bin_at, point_counters, cross_counters, cover_bins, meets, products, selects}
use Rattle.model.specs.Sampling.{Reading, skipped, unknown, known, reading, Stretches, hits}
use Rattle.model.specs.Figures.{in_total, item_of}
use Rattle.model.specs.Format.{byte}
use Rattle.model.specs.Raw.{records_place, token_total}
use Rattle.model.specs.Register.{point_total, in_widths}
use Rattle.arrays.specs.declared.reading.Reading as code
use Rattle.arrays.specs.declared.reading.Reading.TheVariants.{Skipped, Unknown, Known}

-- ---- one element for each counter

-- 1 where the sample hits the counter
unfoldable pub hit_flags : Table → List ℕ → Stretches → List Counter → List ℕ
hit_flags t w m cs = map (λ c. as_bit (hits t w m c)) cs

-- 1 where the counter counts in its item's total
unfoldable pub total_flags : Table → List Counter → List ℕ
total_flags t cs = map (λ c. as_bit (in_total t c)) cs

-- what the counter is; the illegal ones are 2, 4 and 6
abbrev pub kind_of : Counter → ℕ
kind_of (value_bin c) = 0
kind_of (default_bin b) = 1
kind_of (illegal_bin b) = 2
kind_of (transition b) = 3
kind_of (illegal_transition b) = 4
kind_of (cross_bin c i) = 5
kind_of (illegal_cross c i) = 6
kind_of (product c cs) = 7

unfoldable pub kinds_of : List Counter → List ℕ
kinds_of cs = map kind_of cs

-- the item of each counter
unfoldable pub items_of : Table → List Counter → List ℕ
items_of t cs = map (item_of t) cs

-- the counters of all points, and those of all crosses: `counters` is the one and then the other
unfoldable pub all_point_counters : Table → List Counter
all_point_counters t = concat_of (point_counters t) (up_from 0 (point_total t))

unfoldable pub all_cross_counters : Table → List Counter
all_cross_counters t = concat_of (cross_counters t) (up_from 0 (length t.crosses))

-- how many counters the points before p have: where those of p begin
unfoldable pub point_start : Table → ℕ → ℕ
point_start t p = length (concat_of (point_counters t) (up_from 0 p))

-- of each point, and the end of the last
unfoldable pub point_starts : Table → List ℕ
point_starts t = map (point_start t) (up_from 0 (suc (point_total t)))

-- ---- one element for each cover bin of a point: those of point p stand from 256 p on, in an array of 4,096

-- the point's cover bins, in order
unfoldable pub covers : Table → ℕ → List CoverBin
covers t p = cover_bins (point_counters t p)

-- the array has 1 at each cover bin of which f is true, and 0 at each other
unfoldable pub Tells : (CoverBin → Bool) → Table → List ℕ → Type 0
Tells f t a = (p k : ℕ) → p < point_total t → k < length (covers t p) → get_or a (256 * p + k) 0 ≡ as_bit (f (get_or (covers t p) k no_cover_bin))

-- the number of the value bin that a cover bin comes of; 65,535 for an auto bin
abbrev pub origin : CoverBin → ℕ
origin (listed b k) = b
origin (auto p k) = 65535

-- the array has each cover bin's origin
unfoldable pub Origins : Table → List ℕ → Type 0
Origins t a = (p k : ℕ) → p < point_total t → k < length (covers t p) → get_or a (256 * p + k) 0 ≡ origin (get_or (covers t p) k no_cover_bin)

-- how many cover bins each point has
unfoldable pub cover_counts : Table → List ℕ
cover_counts t = map (λ p. length (covers t p)) (up_from 0 (point_total t))

-- 1 if the cover bin passed the gate and still holds a value from lo to hi
abbrev pub meet_bit : Table → ℕ → ℕ → CoverBin → ℕ → ℕ
meet_bit t lo hi c gate = as_bit (eqb gate 1 && meets t c lo hi)

-- ---- one element for each product of a cross

-- 1 where f is true of each part
unfoldable pub product_hits : Table → ℕ → (CoverBin → Bool) → List ℕ
product_hits t c f = map (λ cs. as_bit (all f cs)) (products t c)

-- bit i: the cross's i-th bin selects the product; 0 where f is not true of each part
unfoldable pub product_mark : Table → ℕ → (CoverBin → Bool) → List CoverBin → ℕ
product_mark t c f cs = cond (all f cs) (bits_from (λ i. selects t (cross_bin_at t c i).select cs) 0 (length (cross_at t c).bins)) 0

unfoldable pub product_marks : Table → ℕ → (CoverBin → Bool) → List ℕ
product_marks t c f = map (product_mark t c f) (products t c)

-- where a cross's record stands, where its bins begin, and where their tokens begin
pub record CrossPlace : Type 0 where
  pub cross : ℕ
  pub bins : ℕ
  pub tokens : ℕ

abbrev pub next_place : List ℕ → CrossPlace → CrossPlace
next_place s a = record { cross = a.cross + 13; bins = a.bins + 3 * byte s (a.cross + 12); tokens = a.tokens + 20 * token_total s a.bins (byte s (a.cross + 12)) }

unfoldable pub cross_place : List ℕ → ℕ → CrossPlace
cross_place s zero = record { cross = records_place s 7; bins = records_place s 8; tokens = records_place s 9 }
cross_place s (suc c) = next_place s (cross_place s c)

-- ---- one element for each point's reading

-- a reading as the code has it, and the other way round
abbrev pub reading_code : Reading → code.Reading
reading_code skipped = Skipped
reading_code unknown = Unknown
reading_code (known v) = Known v

abbrev pub reading_from : code.Reading → Reading
reading_from Skipped = skipped
reading_from Unknown = unknown
reading_from (Known v) = known v

unfoldable pub reading_codes : Table → List ℕ → List code.Reading
reading_codes t w = map (λ p. reading_code (reading t w p)) (up_from 0 (point_total t))

-- the array has the readings of a sample that refusal 13 lets pass
pub record Readings (t : Table) (w : List ℕ) (a : List code.Reading) : Type 0 where
  pub codes : take (point_total t) a ≡ reading_codes t w
  pub widths : in_widths t w ≡ true
