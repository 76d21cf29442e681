-- Tables written record by record, for the checked examples: each function gives the bytes of one record, its fields in document 01's order.
-- Assumes nothing.
use Rattle.std.specs.Prelude.{ℕ, zero, suc, ◌-◌, ◌^◌, ◌/◌, ◌%◌, List, [], ◌∷◌, ◌++◌}

-- n in k bytes, little-endian
unfoldable pub le : ℕ → ℕ → List ℕ
le zero n = []
le (suc k) n = n % 256 ∷ le k (n / 256)

-- n sections with no record
unfoldable pub empty : ℕ → List ℕ
empty zero = []
empty (suc n) = le 2 0 ++ empty n

-- an unsigned point with at-least 1
unfoldable pub point_of : ℕ → ℕ → ℕ → ℕ → List ℕ
point_of width guard weight auto_max = le 1 width ++ le 1 0 ++ le 1 guard ++ le 2 weight ++ le 4 1 ++ le 2 auto_max

-- a signed point with no guard, weight 1 and at-least 1
unfoldable pub signed_of : ℕ → List ℕ
signed_of width = le 1 width ++ le 1 1 ++ le 1 255 ++ le 2 1 ++ le 4 1 ++ le 2 64

-- a value bin with a guard
unfoldable pub guarded_of : ℕ → ℕ → ℕ → ℕ → ℕ → ℕ → List ℕ
guarded_of guard point kind form number ranges = le 1 point ++ le 1 kind ++ le 1 form ++ le 2 number ++ le 1 guard ++ le 2 ranges

-- one with no guard
unfoldable pub bin_of : ℕ → ℕ → ℕ → ℕ → ℕ → List ℕ
bin_of = guarded_of 255

unfoldable pub span_of : ℕ → ℕ → List ℕ
span_of a b = le 1 0 ++ le 8 a ++ le 8 b

-- a field of 64 bits that is below 0: two's complement
unfoldable pub below0 : ℕ → ℕ
below0 n = 2 ^ 64 - n

unfoldable pub pattern_of : ℕ → ℕ → List ℕ
pattern_of bits mask = le 1 1 ++ le 8 bits ++ le 8 mask

-- a transition bin of point 0 with no guard
unfoldable pub transition_of : ℕ → ℕ → List ℕ
transition_of kind sequences = le 1 0 ++ le 1 kind ++ le 1 255 ++ le 1 sequences

-- a step with one range
unfoldable pub step_of : ℕ → ℕ → List ℕ
step_of least most = le 1 1 ++ le 1 least ++ le 1 most

-- a cross of points 0 and 1 with no guard, weight 1 and at-least 1
unfoldable pub cross_of : ℕ → List ℕ
cross_of bins = le 1 2 ++ le 1 0 ++ le 1 1 ++ le 1 255 ++ le 1 255 ++ le 1 255 ++ le 2 1 ++ le 4 1 ++ le 1 bins

unfoldable pub cross_bin_of : ℕ → ℕ → List ℕ
cross_bin_of kind tokens = le 1 kind ++ le 1 255 ++ le 1 tokens

unfoldable pub token_of : ℕ → ℕ → ℕ → ℕ → ℕ → List ℕ
token_of op position b lo hi = le 1 op ++ le 1 position ++ le 2 b ++ le 8 lo ++ le 8 hi
