-- What the rows of a point say, by the model. A part is a cover bin after expansion, or an auto bin; those of point p are `covers t p`.
-- Assumes nothing.
use Rattle.std.specs.Prelude.{ℕ, ◌+◌, ◌^◌, ◌≤◌, ◌<◌, ◌≡◌, Bool, true, ◌&&◌, List, [], ◌∷◌, leb, length, get_or}
use Rattle.model.specs.Lists.{one_of}
use Rattle.model.specs.Table.{Point, Range, span, pattern, Table}
use Rattle.model.specs.Values.{lowest, highest}
use Rattle.model.specs.Counters.{no_cover_bin, point_at, distributed}
use Rattle.model.proofs.Readers.{All}
use Rattle.arrays.specs.Flat.{covers}
use Rattle.spans.specs.Point.{cover_listed}
use Rattle.parts.specs.Rows.{Row, part_in, parts_at}
use Rattle.parts.specs.Words.{RowFits}

-- a span of the type, none empty; or a pattern whose mask is below 2^33
abbrev pub Typed : Point → Range → Type 0
Typed q (span lo hi) = (lowest q ≤ lo) × (lo ≤ hi) × (hi ≤ highest q)
Typed q (pattern bits mask) = mask < 2 ^ 33

-- the parts of a row's first and of its last value
abbrev pub start_of : Row → ℕ → Range → ℕ
start_of r x (span lo hi) = part_in r lo
start_of r x (pattern bits mask) = part_in r x

abbrev pub end_of : Row → ℕ → Range → ℕ
end_of r x (span lo hi) = part_in r hi
end_of r x (pattern bits mask) = part_in r x

-- parts rise along the rows: none begins below x, or below the end of the row before
unfoldable pub climbs : ℕ → List Row → Bool
climbs x [] = true
climbs x (r ∷ rs) = leb x (start_of r 0 r.range) && climbs (end_of r 0 r.range) rs

-- the rows of point p, which has m parts: a value falls into exactly those parts that the model distributes it to
pub record RowsOf (t : Table) (p : ℕ) (rs : List Row) (m : ℕ) : Type 0 where
  pub parts : m ≡ length (covers t p)
  pub rule : (k v : ℕ) → k < m → one_of k (parts_at v rs) ≡ distributed t (get_or (covers t p) k no_cover_bin) v
  pub fits : All (RowFits m) rs
  pub typed : All (λ r. Typed (point_at t p) r.range) rs
  pub rises : climbs 0 rs ≡ true
  pub few : length rs ≤ cover_listed t p + 1
