-- The runs of transition bins by the points' readings, as the code has them.
-- proofs/Exact.antt shows that `all_runs` is the model's `next_runs`.
-- Assumes nothing.
use Rattle.std.specs.Prelude.{ℕ, Bool, ◌&&◌, List, [], ◌∷◌, ◌++◌, leb, ltb, length, get_or, take, drop}
use Rattle.model.specs.Lists.{all, sum_of}
use Rattle.model.specs.Table.{Step, TransitionBin}
use Rattle.model.specs.Sampling.{Reading, run_length, next_run}
use Rattle.arrays.specs.Flat.{reading_from}
use Rattle.arrays.specs.declared.reading.Reading as code
use Rattle.arrays.specs.declared.reading.Reading.TheVariants.{Skipped}

-- ---- runs

-- the next runs of a bin's sequences, after one reading
unfoldable pub bin_runs : Reading → List (List Step) → List ℕ → List ℕ
bin_runs r [] runs = []
bin_runs r (ss ∷ sss) runs = next_run ss (take (run_length ss) runs) r ++ bin_runs r sss (drop (run_length ss) runs)

-- how many run words a bin has
abbrev pub bin_words : TransitionBin → ℕ
bin_words b = sum_of run_length b.sequences

-- those of a bin; each point's reading stands at its number
abbrev pub next_bin : List code.Reading → TransitionBin → List ℕ → List ℕ
next_bin codes b runs = bin_runs (reading_from (get_or codes b.point Skipped)) b.sequences runs

-- the next runs of all bins
unfoldable pub all_runs : List code.Reading → List TransitionBin → List ℕ → List ℕ
all_runs codes [] runs = []
all_runs codes (b ∷ bs) runs = next_bin codes b runs ++ all_runs codes bs (drop (bin_words b) runs)

-- ---- what an accepted table grants

-- a run has room for the sequence
unfoldable pub sequence_fits : List Step → Bool
sequence_fits ss = leb (length ss) 16 && leb (run_length ss) 32

-- and for each of the bin, and the bin's point has a reading
unfoldable pub bin_fits : TransitionBin → Bool
bin_fits b = ltb b.point 16 && all sequence_fits b.sequences
