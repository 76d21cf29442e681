-- The products of a cross by number, over the bytes: the cross's record stands at c, its points from c + 1 on.
-- Assumes nothing.
use Rattle.std.specs.Prelude.{ℕ, ◌+◌, ◌*◌, Bool, true, ◌&&◌, List, [], ◌∷◌, map, eqb, get_or}
use Rattle.model.specs.Lists.{as_bit}
use Rattle.model.specs.Table.{Table}
use Rattle.model.specs.Counters.{CoverBin, tuples}
use Rattle.model.specs.Format.{byte, cross_points}
use Rattle.arrays.specs.Flat.{covers}
use Rattle.products.specs.Digits.{digits}

-- how many cover bins the i-th of the cross's points has
abbrev pub size_at : List ℕ → ℕ → List ℕ → ℕ → ℕ
size_at s c counts i = get_or counts (byte s (c + 1 + i)) 0

-- of all four; those that the cross does not have are not used
unfoldable pub sizes_at : List ℕ → ℕ → List ℕ → List ℕ
sizes_at s c counts = size_at s c counts 0 ∷ size_at s c counts 1 ∷ size_at s c counts 2 ∷ size_at s c counts 3 ∷ []

-- the cover bins of each of its points
unfoldable pub parts_at : Table → List ℕ → ℕ → List (List CoverBin)
parts_at t s c = map (covers t) (cross_points s c)

-- product x
abbrev pub product_at : Table → List ℕ → ℕ → ℕ → List CoverBin
product_at t s c x = get_or (tuples (parts_at t s c)) x []

-- each part's gate is 1: the parts' points stand from `at` on, the digits say which bin of each
unfoldable pub gates_open : List ℕ → List ℕ → ℕ → List ℕ → Bool
gates_open s gate at [] = true
gates_open s gate at (d ∷ ds) = eqb (get_or gate (256 * byte s at + d) 0) 1 && gates_open s gate (at + 1) ds

-- 1 where product x is hit
unfoldable pub hit_bit : List ℕ → List ℕ → ℕ → List ℕ → ℕ → ℕ
hit_bit s gate at sizes x = as_bit (gates_open s gate at (digits sizes x))
