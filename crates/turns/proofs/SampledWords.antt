-- The sections of a register after an accepted sample.
-- Assumes nothing.
use mathlib.Core.Path.{◌≡◌, sym, ap, ◌∙◌}
use mathlib.Core.List.{List, ◌++◌, append_assoc}
use Prim.Native.Nat.{ℕ, ◌+◌, ◌≤◌}
use native.Mathlib.Omega.{arith}
use lib.ListN.{length, take, drop, length-drop}
use lib.Seq.{take_at, drop_at, drop-drop, length-take-le}
use Rattle.model.specs.Lists.{up_from, pair_up, as_bit}
use Rattle.model.specs.Table.{Table}
use Rattle.model.specs.Counters.{counters}
use Rattle.model.specs.Sampling.{hits, adds_unknown}
use Rattle.model.specs.Register.{sequences, counter_total, point_total, run_total, words_needed, counts_of, unknowns_of, runs_of, next_runs, all_lengths, run_stretches, sampled_words}
use Rattle.model.proofs.Lists.{length-up_from, pair-length}
use Rattle.sequences.proofs.Sequences.{length_next_runs}

abbrev pub new_runs : Table → List ℕ → List ℕ → List ℕ
new_runs t v w = next_runs t v (sequences t) (runs_of t w)

abbrev pub new_counts : Table → List ℕ → List ℕ → List ℕ
new_counts t v w = pair_up (λ ctr n. as_bit (hits t v (run_stretches (all_lengths t.transition_bins (new_runs t v w))) ctr) + n) (counters t) (counts_of t w)

abbrev pub new_unknowns : Table → List ℕ → List ℕ → List ℕ
new_unknowns t v w = pair_up (λ p n. as_bit (adds_unknown t v p) + n) (up_from 0 (point_total t)) (unknowns_of t w)

module _ (t : Table) (v w : List ℕ) (long : words_needed t ≤ length w) where
  room : 2 + counter_total t + point_total t + run_total t ≤ length w
  unfolding words_needed
  room = long

  pub counts_length : length (new_counts t v w) ≡ counter_total t
  unfolding counts_of
  counts_length =
      let k : counter_total t ≤ length (drop 2 w) = simp length-drop (omega (arith, room)) in
      pair-length _ (counters t) _ (omega (arith, length-take-le (counter_total t) (drop 2 w) k))

  pub unknowns_length : length (new_unknowns t v w) ≡ point_total t
  unfolding unknowns_of
  unknowns_length =
      let k : point_total t ≤ length (drop (2 + counter_total t) w) = simp length-drop (omega (arith, room)) in
      pair-length _ (up_from 0 (point_total t)) _ (omega (arith, length-up_from 0 (point_total t), length-take-le (point_total t) (drop (2 + counter_total t) w) k)) ∙ length-up_from 0 (point_total t)

  pub runs_length : length (new_runs t v w) ≡ run_total t
  unfolding runs_of
  runs_length =
      let k : run_total t ≤ length (drop (2 + counter_total t + point_total t) w) = simp length-drop (omega (arith, room)) in
      length_next_runs t v (sequences t) _ (omega (arith, length-take-le (run_total t) (drop (2 + counter_total t + point_total t) w) k))

  past_runs : List ℕ
  past_runs = drop (words_needed t) w

  past_unknowns : List ℕ
  past_unknowns = new_runs t v w ++ past_runs

  past_counts : List ℕ
  past_counts = new_unknowns t v w ++ past_unknowns

  pub body : drop 2 (sampled_words t v w) ≡ new_counts t v w ++ (new_unknowns t v w ++ (new_runs t v w ++ drop (words_needed t) w))
  unfolding sampled_words
  body =
      append_assoc (new_counts t v w ++ new_unknowns t v w) (new_runs t v w) (drop (words_needed t) w)
      ∙ append_assoc (new_counts t v w) (new_unknowns t v w) (new_runs t v w ++ drop (words_needed t) w)

  parts : drop 2 (sampled_words t v w) ≡ new_counts t v w ++ past_counts
  unfolding past_counts past_unknowns past_runs
  parts = body

  pub counts_are : counts_of t (sampled_words t v w) ≡ new_counts t v w
  unfolding counts_of
  counts_are = ap (take (counter_total t)) parts ∙ take_at (new_counts t v w) past_counts (counter_total t) counts_length

  counts_past : drop (2 + counter_total t) (sampled_words t v w) ≡ new_unknowns t v w ++ past_unknowns
  unfolding past_counts
  counts_past = sym (drop-drop (counter_total t) 2 (sampled_words t v w)) ∙ ap (drop (counter_total t)) parts ∙ drop_at (new_counts t v w) past_counts (counter_total t) counts_length

  pub unknowns_are : unknowns_of t (sampled_words t v w) ≡ new_unknowns t v w
  unfolding unknowns_of
  unknowns_are = ap (take (point_total t)) counts_past ∙ take_at (new_unknowns t v w) past_unknowns (point_total t) unknowns_length

  unknowns_past : drop (2 + counter_total t + point_total t) (sampled_words t v w) ≡ new_runs t v w ++ past_runs
  unfolding past_unknowns
  unknowns_past =
      sym (drop-drop (point_total t) (2 + counter_total t) (sampled_words t v w)) ∙ ap (drop (point_total t)) counts_past
      ∙ drop_at (new_unknowns t v w) past_unknowns (point_total t) unknowns_length

  pub runs_are : runs_of t (sampled_words t v w) ≡ new_runs t v w
  unfolding runs_of
  runs_are = ap (take (run_total t)) unknowns_past ∙ take_at (new_runs t v w) past_runs (run_total t) runs_length

  pub beyond_are : drop (words_needed t) (sampled_words t v w) ≡ drop (words_needed t) w
  unfolding words_needed past_runs
  beyond_are =
      sym (drop-drop (run_total t) (2 + counter_total t + point_total t) (sampled_words t v w)) ∙ ap (drop (run_total t)) unknowns_past
      ∙ drop_at (new_runs t v w) past_runs (run_total t) runs_length
