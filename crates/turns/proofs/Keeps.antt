-- An accepted sample keeps the register long enough and consistent, so that of a batch only the first sample can be refused with 7 or 8.
-- Assumes nothing.
use mathlib.Core.Path.{◌≡◌, refl, ap, ap₂, ◌∙◌}
use mathlib.Core.Bool.{Bool, true, ◌&&◌, cond}
use mathlib.Core.List.{List, [], ◌∷◌, ◌++◌}
use Prim.Native.Nat.{ℕ, suc, ◌+◌, ◌≤◌}
use native.Mathlib.Omega.{arith}
use lib.Dec.{leb}
use lib.ListN.{length, drop, length-append, length-drop}
use borrow.Author.Tests.{leb-true, le-leb}
use Rattle.model.specs.Lists.{up_from, all, pair_up, as_bit, first_failed}
use Rattle.model.specs.Table.{Table}
use Rattle.model.specs.Counters.{counters}
use Rattle.model.specs.Sampling.{hits, adds_unknown}
use Rattle.model.specs.Register.{point_total, words_needed, flag_of, samples_of, counts_of, unknowns_of, all_lengths, run_stretches, sampled_words, sample, long_enough, consistent, register_tests, call_tests}
use Rattle.model.proofs.Booleans.{and_left, and_right}
use Rattle.model.proofs.Lists.{first-passed}
use Rattle.model.proofs.RunBits.{as_bit-le}
use Rattle.turns.proofs.SampledWords.{new_runs, new_counts, new_unknowns, counts_length, unknowns_length, runs_length, body, counts_are, unknowns_are}

-- counts that rise by at most 1 stay below the sample word, which rises by 1
raised : {A : Type 0} (f : A → Bool) (k : ℕ) (xs : List A) (ns : List ℕ) → all (λ n. leb n k) ns ≡ true → all (λ n. leb n (suc k)) (pair_up (λ x n. as_bit (f x) + n) xs ns) ≡ true
unfolding all pair_up
raised f k [] ns e = refl
raised f k (x ∷ xs) [] e = refl
raised f k (x ∷ xs) (n ∷ ns) e =
    let a = leb-true n k (and_left (leb n k) (all (λ n. leb n k) ns) e) in
    let b = le-leb (as_bit (f x) + n) (suc k) (omega (arith, as_bit-le (f x))) in
    rw b (raised f k xs ns (and_right (leb n k) (all (λ n. leb n k) ns) e))

module _ (t : Table) (s w : List ℕ) (long : long_enough t w ≡ true) where
  room : words_needed t ≤ length w
  room = leb-true (words_needed t) (length w) long

  two : 2 ≤ length (sampled_words t s w)
  unfolding sampled_words
  two = omega arith

  flag_at : flag_of (sampled_words t s w) ≡ flag_of w
  unfolding sampled_words
  flag_at = refl

  samples_at : samples_of (sampled_words t s w) ≡ suc (samples_of w)
  unfolding sampled_words
  samples_at = refl

  keeps_long : long_enough t (sampled_words t s w) ≡ true
  unfolding words_needed
  keeps_long =
      le-leb (words_needed t) (length (sampled_words t s w))
      (omega (
        arith,
        length-drop 2 (sampled_words t s w),
        ap length (body t s w room),
        length-append (new_counts t s w) (new_unknowns t s w ++ (new_runs t s w ++ drop (words_needed t) w)),
        length-append (new_unknowns t s w) (new_runs t s w ++ drop (words_needed t) w),
        length-append (new_runs t s w) (drop (words_needed t) w),
        counts_length t s w room,
        unknowns_length t s w room,
        runs_length t s w room,
        two,
      ))

  keeps_consistent : consistent t w ≡ true → consistent t (sampled_words t s w) ≡ true
  unfolding consistent
  keeps_consistent e =
      let n = samples_of w in
      let flag = leb (flag_of w) 1 in
      let ks = all (λ k. leb k n) (counts_of t w) in
      let us = all (λ k. leb k n) (unknowns_of t w) in
      let ek = raised (hits t s (run_stretches (all_lengths t.transition_bins (new_runs t s w)))) n (counters t) (counts_of t w) (and_right flag ks (and_left (flag && ks) us e)) in
      let eu = raised (adds_unknown t s) n (up_from 0 (point_total t)) (unknowns_of t w) (and_right (flag && ks) us e) in
      ap₂ (λ (f m : ℕ). leb f 1 && all (λ k. leb k m) (counts_of t (sampled_words t s w)) && all (λ k. leb k m) (unknowns_of t (sampled_words t s w))) flag_at samples_at
      ∙ ap₂ (λ (x y : List ℕ). flag && all (λ k. leb k (suc n)) x && all (λ k. leb k (suc n)) y) (counts_are t s w room) (unknowns_are t s w room)
      ∙ ap₂ (λ (x y : Bool). x && y && all (λ k. leb k (suc n)) (new_unknowns t s w)) (and_left flag ks (and_left (flag && ks) us e)) ek
      ∙ eu

both_pass : (a b : Bool) → a ≡ true → b ≡ true → first_failed ((a, 7) ∷ (b, 8) ∷ []) ≡ 0
unfolding first_failed
both_pass a b p q = rw (p, q)

-- a register that passes the tests 7 and 8 passes them after any accepted sample
pub keeps : (t : Table) (s w r : List ℕ) → first_failed (call_tests t w (sample s r)) ≡ 0 → first_failed (register_tests t (sampled_words t s w)) ≡ 0
unfolding call_tests
keeps t s w r e =
    let p₁ = first-passed (long_enough t w) 7 _ (omega arith) e in
    let p₂ = first-passed (consistent t w) 8 _ (omega arith) p₁.1 in
    both_pass (long_enough t (sampled_words t s w)) (consistent t (sampled_words t s w)) (keeps_long t s w p₁.0) (keeps_consistent t s w p₁.0 p₂.0)

-- then only a call's own tests are left
pub tests_on : (t : Table) (w : List ℕ) (rest : List (Bool × ℕ)) → first_failed (register_tests t w) ≡ 0 → first_failed (register_tests t w ++ rest) ≡ first_failed rest
unfolding first_failed
tests_on t w rest e =
    let p₁ = first-passed (long_enough t w) 7 ((consistent t w, 8) ∷ []) (omega arith) e in
    let p₂ = first-passed (consistent t w) 8 [] (omega arith) p₁.1 in
    ap₂ (λ (x y : Bool). cond x (cond y (first_failed rest) 8) 7) p₁.0 p₂.0
