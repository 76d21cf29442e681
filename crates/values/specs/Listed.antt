-- Which value bins of a point list a value.
-- Assumes nothing.
use Rattle.std.specs.Prelude.{ℕ, suc, Bool, ◌&&◌, cond, List, [], ◌∷◌, eqb}
use Rattle.model.specs.Lists.{any}
use Rattle.model.specs.Table.{ValueBin}
use Rattle.model.specs.Values.{in_ranges}

-- the bin lists the value
abbrev pub lists : ℕ → ℕ → ValueBin → Bool
lists p v b = eqb b.point p && in_ranges b.ranges v

-- some bin of the point does
unfoldable pub listed_in : ℕ → ℕ → List ValueBin → Bool
listed_in p v bs = any (lists p v) bs

-- the number of the first bin that lists the value, the first bin here being number b; after the last, the next number
unfoldable pub first_listing : ℕ → ℕ → ℕ → List ValueBin → ℕ
first_listing p v b [] = b
first_listing p v b (x ∷ xs) = cond (lists p v x) b (first_listing p v (suc b) xs)
