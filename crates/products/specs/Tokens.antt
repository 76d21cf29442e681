-- The truth of a cross bin's tokens. Row j of the leaves, 256 bytes, is that of token j for each cover bin of the point at the token's position.
-- The cross's record stands at c, the tokens from k on.
-- Assumes nothing.
use Rattle.std.specs.Prelude.{ℕ, ◌+◌, ◌*◌, ◌<◌, ◌≤◌, ◌≡◌, true, List, [], ◌∷◌, map, eqb, length, get_or, drop}
use Rattle.model.specs.Lists.{up_from, as_bit}
use Rattle.model.specs.Table.{Table}
use Rattle.model.specs.Values.{field_value, in_type}
use Rattle.model.specs.Counters.{CoverBin, no_cover_bin, point_at, meets}
use Rattle.model.specs.Format.{byte, u16, u64, accepted, table_of}
use Rattle.model.specs.Register.{point_total}
use Rattle.arrays.specs.Flat.{covers, Origins}
use Rattle.meets.specs.Plan.{ValuesPlan}
use Rattle.products.specs.Shapes.{sizes_of}
use Rattle.products.specs.declared.shapes.Shape.{Shape}
use Rattle.products.specs.Told.{leaf_bit}

-- the point at the position of the token at `at`
abbrev pub token_point : List ℕ → ℕ → ℕ → ℕ
token_point s c at = byte s (c + 1 + byte s (at + 1))

-- the token's truth for a cover bin of that point
abbrev pub token_bit : Table → List ℕ → ℕ → CoverBin → ℕ
token_bit t s at b = leaf_bit (meets t) (b ∷ []) (byte s at) 0 (u16 s (at + 2)) (field_value (u64 s (at + 4))) (field_value (u64 s (at + 12)))

-- the row that stands from `row` on tells it of each cover bin of the point
unfoldable pub RowTold : Table → List ℕ → ℕ → ℕ → ℕ → List ℕ → Type 0
RowTold t s c at row leaves =
    (d : ℕ) → d < length (covers t (token_point s c at)) → get_or leaves (row + d) 0 ≡ token_bit t s at (get_or (covers t (token_point s c at)) d no_cover_bin)

unfoldable pub RowsTold : Table → List ℕ → ℕ → ℕ → ℕ → List ℕ → Type 0
RowsTold t s c k n leaves = (j : ℕ) → j < n → RowTold t s c (k + 20 * j) (256 * j) leaves

-- the same elements before a place
unfoldable pub Kept : ℕ → List ℕ → List ℕ → Type 0
Kept n xs ys = (i : ℕ) → i < n → get_or ys i 0 ≡ get_or xs i 0

-- 1 where the origin is b, for n cover bins from `from` on
abbrev pub named_bit : List ℕ → ℕ → ℕ → ℕ
named_bit lists b i = as_bit (eqb (get_or lists i 0) b)

unfoldable pub named_from : List ℕ → ℕ → ℕ → ℕ → List ℕ
named_from lists b from n = map (named_bit lists b) (up_from from n)

-- ---- what an accepted table grants

-- the token's position is one of the cross, its bin is one of the table, its values are values of the point's type
pub record Legal (s : List ℕ) (c at : ℕ) : Type 0 where
  pub position : byte s (at + 1) < byte s c
  pub bin : byte s at ≡ 1 → u16 s (at + 2) < 65535
  pub low : byte s at ≡ 2 → in_type (point_at (table_of s) (token_point s c at)) (field_value (u64 s (at + 4))) ≡ true
  pub high : byte s at ≡ 2 → in_type (point_at (table_of s) (token_point s c at)) (field_value (u64 s (at + 12))) ≡ true

unfoldable pub TokensLegal : List ℕ → ℕ → ℕ → ℕ → Type 0
TokensLegal s c k n = (j : ℕ) → j < n → Legal s c (k + 20 * j)

-- the table is accepted, the cross's points are points of it, the shape says how many cover bins each has, and the plan and the origins, from element 64 of the lists on, belong to the table
pub record Ready (s : List ℕ) (c : ℕ) (x : Shape) (plan lists : List ℕ) : Type 0 where
  pub whole : accepted s ≡ true
  pub points : (i : ℕ) → i < byte s c → byte s (c + 1 + i) < point_total (table_of s)
  pub few : x.count ≤ 4
  pub sizes : (i : ℕ) → i < byte s c → get_or (sizes_of x) i 1 ≡ length (covers (table_of s) (byte s (c + 1 + i)))
  pub from : Origins (table_of s) (drop 64 lists)
  pub planned : ValuesPlan (table_of s) plan lists
