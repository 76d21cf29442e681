-- The words of a log.
-- Assumes nothing.
use Rattle.std.specs.Prelude.{ℕ, zero, suc, ◌+◌, ◌-◌, ◌*◌, cond, ◌&&◌, List, [], ◌++◌, leb, eqb, length}
use Rattle.model.specs.Format.{u32}
use Rattle.model.specs.Raw.{rows}

-- The words of k samples of so many points, one after another: each stands after its entry's first word. Words are of four bytes,
-- little-endian; the first entry begins at byte `at`.
unfoldable pub samples_from : ℕ → ℕ → List ℕ → ℕ → List ℕ
samples_from points zero s at = []
samples_from points (suc k) s at = rows (u32 s) 4 (at + 4) (4 + 2 * points) ++ samples_from points k s (at + 4 + 4 * (4 + 2 * points))

-- those that the bytes begin with
abbrev pub samples_in : ℕ → ℕ → List ℕ → List ℕ
samples_in points k s = samples_from points k s 0

-- How many samples of so many bytes stand whole from byte `at` on, one after another, each with a first word of 0: k at most, and as
-- many as have room for their reports, of n words each.
unfoldable pub whole_from : ℕ → ℕ → List ℕ → ℕ → ℕ → ℕ → ℕ
whole_from size n s zero room at = 0
whole_from size n s (suc k) room at = cond (leb (at + size) (length s) && (leb n room && eqb (u32 s at) 0)) (suc (whole_from size n s k (room - n) (at + size))) 0

-- the first sample, and those after it that a block takes: 256 at most, with reports of 12,416 words at most
abbrev pub block_count : ℕ → ℕ → List ℕ → ℕ
block_count points n s = 1 + whole_from (20 + 8 * points) n s 255 (12416 - n) (20 + 8 * points)
