-- Not, and, or over the products' bytes.
-- Assumes nothing.
use Rattle.std.specs.Prelude.{ℕ, ◌+◌, ◌<◌, ◌≡◌, cond, List, eqb, get_or}
use Rattle.std.specs.Int.Bits.{bit_and, bit_or, bit_xor}

-- the first n elements are g
unfoldable pub Says : ℕ → (ℕ → ℕ) → List ℕ → Type 0
Says n g xs = (x : ℕ) → x < n → get_or xs x 0 ≡ g x

unfoldable pub not_of : List ℕ → ℕ → ℕ
not_of xs x = bit_xor (get_or xs x 0) 1

-- the second operand stands n elements after the first
unfoldable pub and_of : ℕ → List ℕ → ℕ → ℕ
and_of n xs x = bit_and (get_or xs x 0) (get_or xs (n + x) 0)

unfoldable pub or_of : ℕ → List ℕ → ℕ → ℕ
or_of n xs x = bit_or (get_or xs x 0) (get_or xs (n + x) 0)

-- op 4 is and, any other is or
unfoldable pub join_of : ℕ → ℕ → List ℕ → ℕ → ℕ
join_of op n xs x = cond (eqb op 4) (and_of n xs x) (or_of n xs x)

-- each of the first n elements is what the step makes of the one that stood there and of the one that stood n after it
abbrev pub Combined : (ℕ → ℕ → ℕ → Type 0) → ℕ → List ℕ → List ℕ → Type 0
Combined step n xs ys = (x : ℕ) → x < n → step (get_or xs x 0) (get_or xs (n + x) 0) (get_or ys x 0)
