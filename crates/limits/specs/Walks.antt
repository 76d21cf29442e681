-- Sums as loops keep them, over states that each turn moves on; and the bytes that passed every test but refusal 6.
-- Assumes nothing.
use Rattle.std.specs.Prelude.{ℕ, zero, suc, ◌+◌, ◌*◌, ◌≤◌, ◌≡◌, cond, List, eqb, length}
use Rattle.model.specs.Format.{got, byte, read_table}
use Rattle.model.specs.Raw.{raw_table}
use Rattle.layout.specs.Places.{layout_of, Small}
use Rattle.layout.specs.declared.Layout.{Layout}

-- The bytes passed all tests before refusal 6, and are read as the table by places.
abbrev pub Readable : List ℕ → Type 0
Readable s = (read_table s 0 ≡ got (raw_table s) (length s)) × (length s ≤ 65536)

-- l is the layout of such bytes
abbrev pub Laid : List ℕ → Layout → Type 0
Laid s l = Readable s × (l ≡ layout_of s) × Small l

-- `sum`, and what f gives at n states from st on
unfoldable pub walk_sum : {S : Type 0} → ℕ → (S → ℕ) → (S → S) → S → ℕ → ℕ
walk_sum sum f next st zero = sum
walk_sum sum f next st (suc n) = walk_sum (sum + f st) f next (next st) n

-- a place `size` bytes on
abbrev pub after : ℕ → ℕ → ℕ
after size at = at + size

abbrev pub byte_at : List ℕ → ℕ → ℕ
byte_at s at = byte s at

-- 1 where the byte is v
abbrev pub is_byte : List ℕ → ℕ → ℕ → ℕ
is_byte s v at = cond (eqb (byte s at) v) 1 0

-- the illegal value bins of a table with that layout
abbrev pub value_illegals : List ℕ → Layout → ℕ
value_illegals s l = walk_sum 0 (is_byte s 2) (after 8) (l.bins + 1) l.bin_count

-- ---- crosses and their bins: a cross's place, and where its bins begin

-- how many bins of the cross are of the kind whose byte is v
abbrev pub cross_kinds : List ℕ → ℕ → ℕ × ℕ → ℕ
cross_kinds s v (c, b) = walk_sum 0 (is_byte s v) (after 3) b (byte s (c + 12))

abbrev pub next_cross : List ℕ → ℕ × ℕ → ℕ × ℕ
next_cross s (c, b) = (c + 13, b + 3 * byte s (c + 12))

-- the illegal bins of all crosses of a table with that layout
abbrev pub cross_illegals : List ℕ → Layout → ℕ
cross_illegals s l = walk_sum 0 (cross_kinds s 2) (next_cross s) (l.crosses, l.cross_bins) l.cross_count

-- ---- transition bins: a bin's place, where its sequences begin, and where their steps begin

-- how many steps n sequences have
abbrev pub steps_in : List ℕ → ℕ → ℕ → ℕ
steps_in s q n = walk_sum 0 (byte_at s) (after 1) q n

-- the mosts of a bin's steps together
abbrev pub mosts_in : List ℕ → ℕ × ℕ × ℕ → ℕ
mosts_in s (b, q, p) = walk_sum 0 (byte_at s) (after 3) (p + 2) (steps_in s q (byte s (b + 3)))

abbrev pub next_transition : List ℕ → ℕ × ℕ × ℕ → ℕ × ℕ × ℕ
next_transition s (b, q, p) = (b + 4, q + byte s (b + 3), p + 3 * steps_in s q (byte s (b + 3)))
