-- What is left of the parts of a point, as pieces: spans and patterns of one part each. A span begins at its first value that is left.
-- Values are the model's numbers, z + 2^31.
-- Assumes nothing.
use Rattle.std.specs.Prelude.{ℕ, ◌+◌, ◌*◌, ◌/◌, ◌%◌, ◌^◌, ◌≤◌, ◌<◌, ◌≡◌, Bool, true, false, not, ◌&&◌, cond, List, map, eqb, ltb, length, get_or}
use Rattle.model.specs.Lists.{any, as_bit}
use Rattle.model.specs.Table.{Range, span, pattern, Table}
use Rattle.model.specs.Values.{highest, in_type, in_range}
use Rattle.model.specs.Counters.{CoverBin, no_cover_bin, point_at, excluded_value, holds, meets, has_value}
use Rattle.model.specs.Raw.{rows}
use Rattle.model.proofs.Readers.{All}
use Rattle.arrays.specs.Flat.{covers}

pub record Piece : Type 0 where
  pub range : Range
  pub part : ℕ

abbrev pub piece : Range → ℕ → Piece
piece r k = record { range = r; part = k }

-- two words for each: low end or bits; high end or mask, plus 2^33 times the part, and 2^49 more for a pattern
abbrev pub packed : ℕ → ℕ → ℕ
packed b k = b + 2 ^ 33 * k

-- what the second word says
abbrev pub is_span : ℕ → Bool
is_span w = ltb w (2 ^ 49)

abbrev pub high_in : ℕ → ℕ
high_in w = w % 2 ^ 33

abbrev pub part_above : ℕ → ℕ
part_above w = w / 2 ^ 33 % 65536

abbrev pub piece_by : ℕ → ℕ → Piece
piece_by a w = piece (cond (is_span w) (span a (high_in w)) (pattern a (high_in w))) (part_above w)

abbrev pub piece_at : List ℕ → ℕ → Piece
piece_at w at = piece_by (get_or w at 0) (get_or w (at + 1) 0)

-- n pieces
abbrev pub pieces_at : List ℕ → ℕ → ℕ → List Piece
pieces_at w at n = rows (piece_at w) 2 at n

-- one of the pieces of part k holds the value
abbrev pub piece_holds : ℕ → ℕ → Piece → Bool
piece_holds k v q = eqb q.part k && in_range q.range v

unfoldable pub part_holds : ℕ → ℕ → List Piece → Bool
part_holds k v qs = any (piece_holds k v) qs

-- a span of the type that begins with a value that is left, or a pattern whose mask fits its word
abbrev pub Begins : Table → ℕ → Range → Type 0
Begins t p (span lo hi) = (in_type (point_at t p) lo ≡ true) × (excluded_value t p lo ≡ false) × (lo ≤ hi) × (hi ≤ highest (point_at t p))
Begins t p (pattern bits mask) = mask < 2 ^ 33

-- the pieces of point p hold of each part exactly the values that are left of it
pub record PiecesOf (t : Table) (p : ℕ) (qs : List Piece) : Type 0 where
  pub exact : (k v : ℕ) → k < length (covers t p) → in_type (point_at t p) v ≡ true
      → (part_holds k v qs && not (excluded_value t p v)) ≡ holds t (get_or (covers t p) k no_cover_bin) v
  pub begins : All (λ q. Begins t p q.range) qs
  pub parts : All (λ q. q.part < length (covers t p)) qs

-- 1 if the part still holds a value from lo to hi
abbrev pub met_bit : Table → ℕ → ℕ → CoverBin → ℕ
met_bit t lo hi c = as_bit (meets t c lo hi)

-- a byte for each part of the point
unfoldable pub met_bits : Table → ℕ → ℕ → ℕ → List ℕ
met_bits t p lo hi = map (met_bit t lo hi) (covers t p)

-- 1 if the part still holds a value
abbrev pub has_bit : Table → CoverBin → ℕ
has_bit t c = as_bit (has_value t c)

unfoldable pub has_bits : Table → ℕ → List ℕ
has_bits t p = map (has_bit t) (covers t p)
