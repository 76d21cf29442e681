-- Which parts of a point still hold a value from lo to hi, by one look at each of its pieces.
-- Assumes nothing.
use Rattle.std.specs.Prelude.{ℕ, ◌<◌, ◌/◌, suc, ◌+◌, ◌-◌, ◌≡◌, Bool, true, ◌&&◌, cond, List, [], ◌∷◌, map, leb, ltb, eqb, length, set}
use Rattle.model.specs.Lists.{up_from, any, one_of, as_bit}
use Rattle.model.specs.Table.{Range, span, pattern, Table}
use Rattle.model.specs.Values.{bias, lowest, in_type, in_range}
use Rattle.model.specs.Ranges.{next_in_range}
use Rattle.model.specs.Counters.{point_at}
use Rattle.arrays.specs.Flat.{covers}
use Rattle.spans.specs.Point.{SpansOf}
use Rattle.meets.specs.Pieces.{Piece, pieces_at, PiecesOf}

-- the value fits the pattern and is left. f finds the first value from a number up that is left.
abbrev pub left_in : (ℕ → ℕ) → ℕ → ℕ → ℕ → Bool
left_in f bits mask v = in_range (pattern bits mask) v && eqb (f v) v

unfoldable pub pattern_met : (ℕ → ℕ) → ℕ → ℕ → ℕ → ℕ → Bool
pattern_met f bits mask lo hi = any (left_in f bits mask) (up_from lo (suc hi - lo))

-- a piece holds a value from lo to hi that is left. A span begins with such a value, so that it or the first one from lo up is in both.
abbrev pub is_met : (ℕ → ℕ) → ℕ → ℕ → Range → Bool
is_met f lo hi (span a b) = (leb a hi && leb (f lo) b) && leb (f lo) hi
is_met f lo hi (pattern bits mask) = pattern_met f bits mask lo hi

-- below what a span begins that is met, where x is the first value from lo up that is left and the span reaches up to it
abbrev pub reach_end : ℕ → ℕ → ℕ
reach_end x hi = cond (leb x hi) (hi + 1) 0

-- the parts of the pieces that are met
unfoldable pub met_parts : (ℕ → ℕ) → ℕ → ℕ → List Piece → List ℕ
met_parts f lo hi [] = []
met_parts f lo hi (q ∷ qs) = cond (is_met f lo hi q.range) (q.part ∷ met_parts f lo hi qs) (met_parts f lo hi qs)

-- one piece's 1
unfoldable pub met_one : (ℕ → ℕ) → ℕ → ℕ → Piece → List ℕ → List ℕ
met_one f lo hi q l = cond (is_met f lo hi q.range) (set l q.part 1) l

-- a byte for each of n parts: 1 where one of its pieces is met
unfoldable pub met_flags : (ℕ → ℕ) → ℕ → ℕ → List Piece → ℕ → List ℕ
met_flags f lo hi qs n = map (λ j. as_bit (one_of j (met_parts f lo hi qs))) (up_from 0 n)

-- the least value from x up that fits the pattern, or a smaller number where none does. (Numbers below `bias` are negative values.)
abbrev pub next_fit : ℕ → ℕ → ℕ → ℕ
next_fit bits mask x = cond (ltb x bias && eqb bits 0) x (next_in_range (pattern bits mask) x)

-- what the code asks of a piece, where there are m parts
abbrev pub PartBelow : ℕ → Piece → Type 0
PartBelow m q = q.part < m

-- what is asked is of point p: its spans and pieces, the lowest value of its type, two values of it, and how many parts it has
pub record Asked (t : Table) (p : ℕ) (spans words : List ℕ) (low lo hi parts : ℕ) : Type 0 where
  pub free : SpansOf t p spans
  pub pieces : PiecesOf t p (pieces_at words 0 (length words / 2))
  pub lowest : low ≡ lowest (point_at t p)
  pub from : in_type (point_at t p) lo ≡ true
  pub to : in_type (point_at t p) hi ≡ true
  pub count : parts ≡ length (covers t p)
