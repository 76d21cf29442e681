-- Value bins by their places: the points with a default among the first bins, and a bin whose point is there.
-- Assumes nothing.
use Rattle.std.specs.Prelude.{ℕ, zero, suc, ◌+◌, ◌*◌, ◌<◌, ◌≤◌, Bool, ◌&&◌, List, [], leb, eqb, length}
use Rattle.model.specs.Format.{byte, u16, Reader, read_record, BinHead, bin_head, bin_tests, defaults_with}
use Rattle.ranges.specs.Types.{Wide}
use Rattle.check_values.specs.declared.bins.Bin.{Bin}

-- the points with a default bin among the first i bins from `base` on
unfoldable pub defaults_up_to : List ℕ → ℕ → ℕ → List ℕ
defaults_up_to s base zero = []
defaults_up_to s base (suc i) = defaults_with (bin_head s (base + 8 * i)) (defaults_up_to s base i)

-- the fields of the bin at `at`
abbrev pub fields_at : List ℕ → ℕ → Bin
fields_at s at =
    record { point = byte s at; kind = byte s (at + 1); form = byte s (at + 2); number = u16 s (at + 3); guard = byte s (at + 5); ranges = u16 s (at + 6) }

-- bin i of those from `base` on
unfoldable pub read_bin : List ℕ → ℕ → ℕ → ℕ → Reader BinHead
read_bin s points base i = read_record s 8 (bin_tests s points (defaults_up_to s base i)) (bin_head s)

-- the bin at `at` is a default of point p
unfoldable pub is_default_of : List ℕ → ℕ → ℕ → Bool
is_default_of s p at = leb 3 (byte s (at + 1)) && eqb p (byte s at)

-- the bin at `bin` is of one of the np points whose records stand from `points` on, and that point's width is a width
pub record Typed (s : List ℕ) (points np bin : ℕ) : Type 0 where
  pub known : byte s bin < np
  pub place : points + 11 * byte s bin + 11 ≤ length s
  pub wide : Wide s (points + 11 * byte s bin)
