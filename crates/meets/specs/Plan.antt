-- The plan of the values of a table: of each point its rows, then its excluded spans, then its pieces, in one array.
-- Assumes nothing.
use Rattle.std.specs.Prelude.{ℕ, ◌+◌, ◌*◌, ◌-◌, ◌/◌, ◌%◌, ◌≤◌, ◌<◌, ◌≡◌, List, length, get_or, take, drop}
use Rattle.model.specs.Lists.{sum_of, up_from}
use Rattle.model.specs.Table.{Table}
use Rattle.model.specs.Register.{point_total}
use Rattle.arrays.specs.Flat.{covers}
use Rattle.spans.specs.Point.{SpansOf, ranges_listed}
use Rattle.parts.specs.Words.{plan_rows_at}
use Rattle.parts.specs.Point.{RowsOf}
use Rattle.meets.specs.Pieces.{PiecesOf, pieces_at}

-- the words of a plan from `from` to `to`
abbrev pub segment : List ℕ → ℕ → ℕ → List ℕ
segment w from to = take (to - from) (drop from w)

-- point p: its rows, seven words each, from `from` to `mid`, its spans from `mid` to `cuts`, its pieces, two words each, from `cuts` to `to`
pub record PointPlan (t : Table) (p : ℕ) (w : List ℕ) (from mid cuts to : ℕ) : Type 0 where
  pub order : from ≤ mid
  pub order₁ : mid ≤ cuts
  pub order₂ : cuts ≤ to
  pub order₃ : to ≤ length w
  pub rows_of : RowsOf t p (plan_rows_at (segment w from mid) 0 ((mid - from) / 7)) (length (covers t p))
  pub whole : (mid - from) % 7 ≡ 0
  pub spans : SpansOf t p (segment w mid cuts)
  pub pieces : PiecesOf t p (pieces_at w cuts ((to - cuts) / 2))

-- all points: point p's rows are from bound 3 p on, its spans from bound 3 p + 1 on, its pieces from bound 3 p + 2 to bound 3 p + 3
unfoldable pub ValuesPlan : Table → List ℕ → List ℕ → Type 0
ValuesPlan t w bounds = (p : ℕ) → p < point_total t → PointPlan t p w (get_or bounds (3 * p) 0) (get_or bounds (3 * p + 1) 0) (get_or bounds (3 * p + 2) 0) (get_or bounds (3 * p + 3) 0)

-- how many words the plan of point p takes at most: a range makes a row and a piece, seven words and two, or a span, one word; auto bins make one row and piece more, and each part a piece
abbrev pub point_need : Table → ℕ → ℕ
point_need t p = 9 * ranges_listed t p + 2 * length (covers t p) + 9

-- and the plan of all points
unfoldable pub plan_need : Table → ℕ
plan_need t = sum_of (point_need t) (up_from 0 (point_total t))
