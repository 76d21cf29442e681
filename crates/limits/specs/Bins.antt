-- What value bins, transition bins and auto bins add to the entries of their points; and the products of crosses.
-- Assumes nothing.
use Rattle.std.specs.Prelude.{ℕ, ◌+◌, ◌*◌, ◌≤◌, min, ◌≡◌, Bool, cond, List, [], ◌∷◌, map, leb, ltb, eqb, length, get_or, set}
use Rattle.model.specs.Lists.{up_from}
use Rattle.model.specs.Table.{Kind, cover, ignore, illegal, default, Range, Form, ValueBin}
use Rattle.model.specs.Counters.{auto_count, product_of}
use Rattle.model.specs.Format.{byte, u16, kind_from, form_from, point_record}
use Rattle.model.specs.Ranges.{range_count, counters_of, covers_of, transitions_of}
use Rattle.model.specs.Raw.{ranges_at}

-- ---- entries: a number for each point

-- x more in the entry of point p
abbrev pub more : ℕ → ℕ → List ℕ → List ℕ
more p x l = set l p (get_or l p 0 + x)

-- each element adds a term to its point's entry
unfoldable pub added : {A : Type 0} → (A → ℕ) → (A → ℕ) → List A → List ℕ → List ℕ
added at f [] l = l
added at f (x ∷ xs) l = added at f xs (more (at x) (f x) l)

-- there are 16, of at most k
pub record Entries (k : ℕ) (l : List ℕ) : Type 0 where
  pub count : length l ≡ 16
  pub most : (p : ℕ) → get_or l p 0 ≤ k

abbrev pub entry : List ℕ → ℕ → ℕ
entry l p = get_or l p 0

-- a place by itself
abbrev pub here : ℕ → ℕ
here at = at

-- ---- value bins

-- a bin of one of n points
abbrev pub bin_below : ℕ → ValueBin → Bool
bin_below n v = ltb v.point n

-- the form and the ranges of the bin at b, whose ranges stand from r on
abbrev pub form_at : List ℕ → ℕ → Form
form_at s b = form_from (byte s (b + 2)) (u16 s (b + 3))

abbrev pub own_ranges : List ℕ → ℕ → ℕ → List Range
own_ranges s b r = ranges_at s r (u16 s (b + 6))

abbrev pub bin_point : ValueBin → ℕ
bin_point v = v.point

-- the cover bins that it stands for; the points' records stand from `points` on
abbrev pub bin_covers : List ℕ → ℕ → ValueBin → ℕ
bin_covers s points v = covers_of v.kind (range_count (point_record s (points + 11 * v.point)) v.form v.ranges)

-- its own counter, if it is an illegal or a default bin
abbrev pub bin_singles : ValueBin → ℕ
bin_singles v = counters_of v.kind 0

-- 1 for a bin that bars auto bins
abbrev pub bars_of : Kind → ℕ
bars_of cover = 1
bars_of ignore = 0
bars_of illegal = 0
bars_of default = 1

abbrev pub bin_bars : ValueBin → ℕ
bin_bars v = bars_of v.kind

-- ---- transition bins, by their places

abbrev pub place_point : List ℕ → ℕ → ℕ
place_point s at = byte s at

-- it is one of n points
abbrev pub point_below : List ℕ → ℕ → ℕ → Bool
point_below s n at = ltb (byte s at) n

abbrev pub place_singles : List ℕ → ℕ → ℕ
place_singles s at = transitions_of (kind_from (byte s (at + 1)))

abbrev pub place_bars : List ℕ → ℕ → ℕ
place_bars s at = covers_of (kind_from (byte s (at + 1))) 1

-- ---- points

-- the auto bins of point p, by the bins that bar them
abbrev pub autos_at : List ℕ → ℕ → List ℕ → ℕ → ℕ
autos_at s points bars p = cond (eqb (get_or bars p 0) 0) (auto_count (point_record s (points + 11 * p))) 0

-- the counters of point p: cover bins and single ones
abbrev pub counters_in : List ℕ → List ℕ → ℕ → ℕ
counters_in covers singles p = get_or covers p 0 + get_or singles p 0

abbrev pub point_fits : List ℕ → List ℕ → ℕ → Bool
point_fits covers singles p = leb (counters_in covers singles p) 256

-- ---- crosses

-- products over 1,024 are not told apart
abbrev pub capped : ℕ → ℕ
capped n = min 1025 n

-- the i-th point of the cross at c; n of them
abbrev pub cross_point : List ℕ → ℕ → ℕ → ℕ
cross_point s c i = byte s (c + 1 + i)

abbrev pub points_from : List ℕ → ℕ → ℕ → ℕ → List ℕ
points_from s c i n = map (cross_point s c) (up_from i n)

-- the products of the cross at c, by the cover bins of each point
unfoldable pub cross_products : List ℕ → List ℕ → ℕ → ℕ
cross_products covers s c = capped (product_of (entry covers) (points_from s c 0 (byte s c)))

abbrev pub cross_fits : List ℕ → List ℕ → ℕ → Bool
cross_fits covers s c = leb (cross_products covers s c) 1024
