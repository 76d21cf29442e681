-- The sequences of a table as rows of words, for a walk that reads no byte of the table.
-- A bin: point, number of sequences, their rows. A sequence: number of steps, run words, number of ranges, least and most of each step, four words for each range.
-- A range: the bit of its step, kind (0: span, else pattern), low end or bits, high end or mask.
-- Assumes nothing.
use Rattle.std.specs.Prelude.{ℕ, zero, suc, ◌+◌, ◌*◌, ◌^◌, ◌≤◌, ◌≡◌, cond, List, [], ◌∷◌, ◌++◌, eqb, length, get_or, take, drop}
use Rattle.model.specs.Lists.{concat_of}
use Rattle.model.specs.Table.{Range, span, pattern, Step, TransitionBin, Table}
use Rattle.model.specs.Sampling.{run_length}
use Rattle.model.specs.Format.{byte}
use Rattle.model.specs.Raw.{step_total, range_total}
use Rattle.model.proofs.AccessTransitions.{ranges_in}
use Rattle.sequences.specs.Shapes.{shape_of, words_of, Fits}

-- ---- rows

abbrev pub range_words : ℕ → Range → List ℕ
range_words bit (span lo hi) = bit ∷ 0 ∷ lo ∷ hi ∷ []
range_words bit (pattern bits mask) = bit ∷ 1 ∷ bits ∷ mask ∷ []

-- the range of its last three words
abbrev pub range_of : ℕ → ℕ → ℕ → Range
range_of kind a b = cond (eqb kind 0) (span a b) (pattern a b)

-- the ranges of some steps, the first of which has bit i
unfoldable pub step_ranges : ℕ → List Step → List ℕ
step_ranges i [] = []
step_ranges i (s ∷ ss) = concat_of (range_words (2 ^ i)) s.ranges ++ step_ranges (suc i) ss

unfoldable pub sequence_row : List Step → List ℕ
sequence_row ss = length ss ∷ run_length ss ∷ ranges_in ss ∷ shape_of ss ++ step_ranges 0 ss

unfoldable pub bin_row : TransitionBin → List ℕ
bin_row b = b.point ∷ length b.sequences ∷ concat_of sequence_row b.sequences

unfoldable pub sequence_rows : Table → List ℕ
sequence_rows t = concat_of bin_row t.transition_bins

-- ---- where they stand

-- the words xs stand in w from `at` on
abbrev pub Stands : List ℕ → ℕ → List ℕ → Type 0
Stands w at xs = (take (length xs) (drop at w) ≡ xs) × (at + length xs ≤ length w)

unfoldable pub SequencesAt : Table → List ℕ → ℕ → Type 0
SequencesAt t plan at = Stands plan at (sequence_rows t)

-- what a walk asks of the row at a place: it lies in w, and its shape has that many run words and no more than a run has room for
pub record RowFits (w : List ℕ) (at : ℕ) : Type 0 where
  pub end : at + 3 + 2 * get_or w at 0 + 4 * get_or w (at + 2) 0 ≤ length w
  pub shape : Fits (take (2 * get_or w at 0) (drop (at + 3) w))
  pub words : get_or w (at + 1) 0 ≡ words_of (take (2 * get_or w at 0) (drop (at + 3) w))

-- ---- from the table's bytes: n steps from p on

-- their shape and their run words
unfoldable pub shape_at : List ℕ → ℕ → ℕ → List ℕ
shape_at s p zero = []
shape_at s p (suc n) = byte s (p + 1) ∷ byte s (p + 2) ∷ shape_at s (p + 3) n

unfoldable pub mosts_at : List ℕ → ℕ → ℕ → ℕ
mosts_at s p zero = 0
mosts_at s p (suc n) = byte s (p + 2) + mosts_at s (p + 3) n

-- Where the steps and the step ranges of n sequences end, which begin at p and r. The sequences' records stand from q on.
pub record Past (s : List ℕ) (q p r n : ℕ) (steps ranges : ℕ) : Type 0 where
  pub steps_end : steps ≡ p + 3 * step_total s q n
  pub ranges_end : ranges ≡ r + 17 * range_total s p (step_total s q n)
  pub steps_near : steps ≤ p + 48 * n
  pub ranges_near : ranges ≤ r + 69360 * n
