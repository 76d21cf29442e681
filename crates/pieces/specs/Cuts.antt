-- The pieces of a point, cut from its rows: each span row at the borders of its parts, each cut from its first value that is left on.
-- Assumes nothing.
use Rattle.std.specs.Prelude.{ℕ, zero, suc, ◌+◌, ◌-◌, ◌*◌, ◌/◌, ◌^◌, ◌≤◌, ◌<◌, min, cond, List, [], ◌∷◌, ◌++◌, leb, ltb}
use Rattle.model.specs.Table.{Range, span, pattern}
use Rattle.parts.specs.Rows.{Row, row}
use Rattle.parts.specs.Words.{range_of}
use Rattle.pieces.specs.declared.cuts.Row as code
use Rattle.meets.specs.Pieces.{Piece, piece, packed}

-- what is left of the span a to b of part k: f finds the first value from a number up that is left
abbrev pub left_of : (ℕ → ℕ) → ℕ → ℕ → ℕ → List Piece
left_of f a b k = cond (leb (f a) b) (piece (span (f a) b) k ∷ []) []

-- A row's parts are counted from its bin's first. The value at place d of the row is in this one:
abbrev pub step_at : ℕ → ℕ → ℕ → ℕ → ℕ
step_at before share last d = min ((before + d) / share) last

-- and part j begins with this value in a row from lo on,
abbrev pub cut_low : ℕ → ℕ → ℕ → ℕ → ℕ
cut_low lo before share j = lo + (j * share - before)

-- and ends just below the next one, or with the row where it is the last of the row's
abbrev pub cut_high : ℕ → ℕ → ℕ → ℕ → ℕ → ℕ → ℕ
cut_high lo hi before share top j = cond (ltb j top) (cut_low lo before share (j + 1) - 1) hi

-- n parts of the row lo to hi from part j on
unfoldable pub cuts_from : (ℕ → ℕ) → ℕ → ℕ → ℕ → ℕ → ℕ → ℕ → ℕ → ℕ → List Piece
cuts_from f lo hi before share first top j zero = []
cuts_from f lo hi before share first top j (suc n) =
    left_of f (cut_low lo before share j) (cut_high lo hi before share top j) (first + j) ++ cuts_from f lo hi before share first top (j + 1) n

-- from the part of its first value to that of its last; a pattern stays whole
abbrev pub pieces_in : (ℕ → ℕ) → Row → Range → List Piece
pieces_in f r (span lo hi) =
    let from = step_at r.before r.share r.last 0 in
    let top = step_at r.before r.share r.last (hi - lo) in
    cuts_from f lo hi r.before r.share r.first top from (top + 1 - from)
pieces_in f r (pattern bits mask) = piece (pattern bits mask) (r.first + step_at r.before r.share r.last 0) ∷ []

unfoldable pub row_pieces : (ℕ → ℕ) → Row → List Piece
row_pieces f r = pieces_in f r r.range

unfoldable pub all_pieces : (ℕ → ℕ) → List Row → List Piece
all_pieces f [] = []
all_pieces f (r ∷ rs) = row_pieces f r ++ all_pieces f rs

-- ---- as words, two for each piece

abbrev pub range_words : Range → ℕ → List ℕ
range_words (span lo hi) k = lo ∷ packed hi k ∷ []
range_words (pattern bits mask) k = bits ∷ packed mask (k + 65536) ∷ []

unfoldable pub piece_words : List Piece → List ℕ
piece_words [] = []
piece_words (q ∷ qs) = range_words q.range q.part ++ piece_words qs

-- ---- what the code asks of a row; `rows_cuttable` (proofs/PointPieces.antt) says that the rows of a point have it

abbrev pub Bounded : ℕ → Range → Type 0
Bounded low (span lo hi) = (low ≤ lo) × (lo ≤ hi) × (hi < 2 ^ 33)
Bounded low (pattern bits mask) = mask < 2 ^ 33

pub record Cuttable (low : ℕ) (r : Row) : Type 0 where
  pub before : r.before < 2 ^ 60
  pub share : 1 ≤ r.share
  pub room : r.first + r.last < 65536
  pub bounds : Bounded low r.range

-- the code's row
abbrev pub row_of : code.Row → Row
row_of r = row (range_of r.range) r.before r.first r.last r.share

-- what the code asks of a span row that has parts up to `top`
pub record CutsFit (lo hi before share first top : ℕ) : Type 0 where
  pub order : lo ≤ hi
  pub high : hi < 2 ^ 33
  pub small : before < 2 ^ 60
  pub most : top * share ≤ before + (hi - lo)
  pub room : first + top < 65536
