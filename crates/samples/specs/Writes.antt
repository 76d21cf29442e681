-- What an accepted sample writes, part by part.
-- Assumes nothing.
use Rattle.std.specs.Prelude.{ℕ, suc, ◌+◌, ◌<◌, ◌≤◌, ◌≡◌, true, List, ◌∷◌, ◌++◌, length, take, drop, get_or}
use Rattle.model.specs.Table.{Table}
use Rattle.model.specs.Counters.{counters}
use Rattle.model.specs.Lists.{first_failed}
use Rattle.model.specs.Register.{sequences, runs_of, next_runs, all_lengths, run_stretches, sample, call_tests}
use Rattle.arrays.specs.Flat.{hit_flags, kinds_of}
use Rattle.arrays.specs.declared.reading.Reading as code
use Rattle.places.specs.Places.{is_set}
use Rattle.samples.specs.Adds.{add_hits, is_unknown_code, all_room, illegal_flags}

-- the refusal number of a sample s with report r at the register w, 0 if it is accepted
abbrev pub sample_refusal : Table → List ℕ → List ℕ → List ℕ → ℕ
sample_refusal t s w r = first_failed (call_tests t w (sample s r))

-- the run words after the sample s
unfoldable pub runs_after : Table → List ℕ → List ℕ → List ℕ
runs_after t s w = next_runs t s (sequences t) (runs_of t w)

-- the flags of the counters that the sample hits, as the run words after it tell
unfoldable pub flags_after : Table → List ℕ → List ℕ → List ℕ
flags_after t s w = hit_flags t s (run_stretches (all_lengths t.transition_bins (runs_after t s w))) (counters t)

-- the flags of the table's illegal counters
abbrev pub report_of : Table → List ℕ → List ℕ
report_of t flags = illegal_flags (kinds_of (counters t)) flags

-- from word 1 on: the sample word, k counts and p unknown counts
unfoldable pub counts_after : ℕ → ℕ → List ℕ → List code.Reading → List ℕ → List ℕ
counts_after k p flags codes w =
    suc (get_or w 1 0) ∷ add_hits is_set (take k flags) (take k (drop 2 w)) ++ add_hits is_unknown_code (take p codes) (take p (drop (2 + k) w))

-- these words are there, and each can be raised
pub record Countable (k p : ℕ) (w : List ℕ) : Type 0 where
  pub there : 2 + k + p ≤ length w
  pub samples : get_or w 1 0 < 4294967295
  pub counts : all_room (take k (drop 2 w)) ≡ true
  pub unknowns : all_room (take p (drop (2 + k) w)) ≡ true
