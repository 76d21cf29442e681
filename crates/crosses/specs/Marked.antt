-- The marks of the products of all crosses, one cross after another.
-- Assumes nothing.
use Rattle.std.specs.Prelude.{ℕ, zero, suc, ◌+◌, ◌<◌, ◌≡◌, List, length, take, drop}
use Rattle.model.specs.Table.{Table}
use Rattle.model.specs.Counters.{product_count}
use Rattle.products.specs.Marks.{cross_marks}

-- how many products the crosses before c have: where the marks of c begin
unfoldable pub mark_start : Table → ℕ → ℕ
mark_start t zero = 0
mark_start t (suc c) = mark_start t c + product_count t c

-- how many products all crosses have
abbrev pub mark_total : Table → ℕ
mark_total t = mark_start t (length t.crosses)

-- the array has the marks of each cross
unfoldable pub Marked : Table → List ℕ → Type 0
Marked t marks = (c : ℕ) → c < length t.crosses → take (product_count t c) (drop (mark_start t c) marks) ≡ cross_marks t c
