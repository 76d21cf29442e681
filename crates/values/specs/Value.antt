-- Two's complement at a width from 1 to 32, as an integer, and the number that keeps its order.
-- Assumes nothing.
use Rattle.std.specs.Prelude.{Bool, true, false, cond, ℕ, ◌+◌, ◌-◌, ◌^◌, ◌<◌, ltb, ℤ, pos, negsuc, ◌-ℤ◌}

-- the top bit of a signed value weighs - 2 ^ (w - 1)
abbrev pub value_of : Bool → ℕ → ℕ → ℤ
value_of true w n = cond (ltb n (2 ^ (w - 1))) (pos n) (pos n -ℤ pos (2 ^ w))
value_of false w n = pos n

-- z and 2 ^ 31, for z of at least - 2 ^ 31
abbrev pub key : ℤ → ℕ
key (pos n) = 2147483648 + n
key (negsuc n) = 2147483647 - n

-- from - 2 ^ 31 to 2 ^ 32 - 1: a value of some width
abbrev pub InKey : ℤ → Type 0
InKey (pos n) = n < 4294967296
InKey (negsuc n) = n < 2147483648
