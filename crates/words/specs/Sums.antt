-- Sums over records in a row: as a loop keeps them, and of a byte of each.
-- Assumes nothing.
use Rattle.std.specs.Prelude.{ℕ, zero, suc, ◌+◌, List}
use Rattle.model.specs.Lists.{sum_of}
use Rattle.model.specs.Raw.{rows}
use Rattle.model.specs.Format.{byte}

-- a place by itself
abbrev pub here : ℕ → ℕ
here at = at

-- `sum`, and what f gives over n records
unfoldable pub sum_from : {A : Type 0} → ℕ → (A → ℕ) → (ℕ → A) → ℕ → ℕ → ℕ → ℕ
sum_from sum f says size at n = sum + sum_of f (rows says size at n)

-- the byte at `at`, and the one of each record of `size` bytes after it: n bytes
unfoldable pub byte_sum : List ℕ → ℕ → ℕ → ℕ → ℕ
byte_sum s size at zero = 0
byte_sum s size at (suc n) = byte s at + byte_sum s size (at + size) n
