-- A part of a table's value bins that has all bins of a point.
-- Assumes nothing.
use Rattle.std.specs.Prelude.{ℕ, zero, suc, ◌+◌, ◌-◌, ◌*◌, ◌/◌, ◌≤◌, ◌<◌, ◌≡◌, false, cond, List, eqb, get_or}
use Rattle.model.specs.Format.{byte, u16}
use Rattle.model.specs.Raw.{records_place, record_count}
use Rattle.spans.specs.declared.collects.Bins.{Bins}
use Rattle.spans.specs.declared.part.Part.{Part}
use Rattle.spans.specs.declared.part.Parts.{Parts}

-- the bin at a is another point's
abbrev pub Other : List ℕ → ℕ → ℕ → Type 0
Other s p a = eqb (byte s a) p ≡ false

-- n bins from a on: from the k-th on they are other points'
abbrev pub OthersFrom : List ℕ → ℕ → ℕ → ℕ → ℕ → Type 0
OthersFrom s p a n k = (j : ℕ) → k ≤ j → j < n → Other s p (a + 8 * j)

-- and up to the k-th
abbrev pub OthersTo : List ℕ → ℕ → ℕ → ℕ → Type 0
OthersTo s p a k = (j : ℕ) → j < k → Other s p (a + 8 * j)

-- where the ranges go on after k bins from a on, whose ranges are from r on
unfoldable pub ranges_past : List ℕ → ℕ → ℕ → ℕ → ℕ
ranges_past s a r zero = r
ranges_past s a r (suc k) = ranges_past s (a + 8) (r + 17 * u16 s (a + 6)) k

-- n bins from a on, their ranges from r on: those of point p are among the m bins from b on, whose ranges are from q on
pub record PartOf (s : List ℕ) (p a r n b q m : ℕ) : Type 0 where
  pub skipped : ℕ
  pub place : b ≡ a + 8 * skipped
  pub ranges : q ≡ ranges_past s a r skipped
  pub near : q ≤ r + 1114095 * skipped
  pub few : skipped + m ≤ n
  pub others : OthersTo s p a skipped
  pub others₁ : OthersFrom s p a n (skipped + m)

-- of the value bins of the table
abbrev pub OwnPart : List ℕ → ℕ → ℕ → ℕ → ℕ → Type 0
OwnPart s p b q m = PartOf s p (records_place s 1) (records_place s 2) (record_count s 1) b q m

-- the same, at places and with a count that are small
pub record OwnBins (s : List ℕ) (p : ℕ) (own : Bins) : Type 0 where
  pub part : OwnPart s p own.bins own.ranges own.count
  pub near : own.bins < 1000000000
  pub near_ranges : own.ranges < 1000000000
  pub few : own.count ≤ 512

-- ---- all points in one pass

-- where a point's bins, or their ranges, begin: it has had n bins, which begin at `first`, and the next one is at a
abbrev pub kept : ℕ → ℕ → ℕ → ℕ
kept n first a = cond (eqb n 0) a first

-- what a point has with one more bin, at a, whose ranges are from r on
abbrev pub added : Part → ℕ → ℕ → Part
added x a r =
    let b = kept x.count x.bins a in
    record { bins = b; ranges = kept x.count x.ranges r; count = (a - b) / 8 + 1 }

-- none
abbrev pub no_part : Part
no_part = record { bins = 0; ranges = 0; count = 0 }

-- point p's among those of all points
abbrev pub part_of : Parts → ℕ → Bins
part_of x p =
    let own = get_or x.own p no_part in
    record { bins = own.bins; ranges = own.ranges; count = own.count }

-- every point's
abbrev pub OwnParts : List ℕ → Parts → Type 0
OwnParts s x = (p : ℕ) → p < 16 → OwnBins s p (part_of x p)
