-- The readings of points by the places of their records.
-- Assumes nothing.
use Rattle.std.specs.Prelude.{ℕ, ◌+◌, ◌*◌, ◌^◌, ◌<◌, cond, List, map, eqb}
use Rattle.model.specs.Lists.{up_from}
use Rattle.model.specs.Table.{Point}
use Rattle.model.specs.Values.{read_value}
use Rattle.model.specs.Sampling.{Reading, skipped, unknown, known, value_word, unknown_word, guard_true}
use Rattle.model.specs.Format.{byte, point_record}
use Rattle.ranges.specs.Types.{Wide}
use Rattle.arrays.specs.Flat.{reading_code}
use Rattle.arrays.specs.declared.reading.Reading as code

-- the reading of a point that is number p of its table
abbrev pub reading_of : Point → List ℕ → ℕ → Reading
reading_of point w p = cond (guard_true w point.guard) (cond (eqb (unknown_word w p) 0) (known (read_value point (value_word w p))) unknown) skipped

-- the same as the code has it, where the point's record stands at `at`
unfoldable pub code_at : List ℕ → List ℕ → ℕ → ℕ → code.Reading
code_at s w at p = reading_code (reading_of (point_record s at) w p)

-- those of n points from number i on; the first point's record stands at `at`
unfoldable pub codes_from : List ℕ → List ℕ → ℕ → ℕ → ℕ → List code.Reading
codes_from s w at i n = map (λ p. code_at s w (at + 11 * p) p) (up_from i n)

-- n records of points whose widths are widths, and a sample with no value above them
pub record Read (s w : List ℕ) (at n : ℕ) : Type 0 where
  pub wide : (p : ℕ) → p < n → Wide s (at + 11 * p)
  pub within : (p : ℕ) → p < n → value_word w p < 2 ^ byte s (at + 11 * p)
