-- What a sample writes, part by part, comes to what the model says.
-- Assumes nothing.
use mathlib.Core.Path.{◌≡◌, refl, sym, ap, ap₂, ◌∙◌}
use mathlib.Core.Bool.{Bool, true, false, cond}
use mathlib.Core.List.{List, [], ◌∷◌, ◌++◌, map, append_assoc}
use Prim.Native.Nat.{ℕ, suc, ◌+◌, ◌≤◌, ◌<◌}
use native.Mathlib.Omega.{arith}
use lib.ListN.{length, take, drop, get_or, length-append, length-drop, length-map, take-append-drop}
use lib.Seq.{take_at, drop_at, drop-drop, length-take-le}
use borrow.Author.Tests.{leb-true}
use Rattle.model.specs.Lists.{up_from, keep, pair_up, as_bit}
use Rattle.model.specs.Table.{Table}
use Rattle.model.specs.Counters.{Counter, value_bin, default_bin, illegal_bin, transition, illegal_transition, cross_bin, illegal_cross, product, counters, is_illegal}
use Rattle.model.specs.Sampling.{is_unknown, reading, Stretches, hits, adds_unknown}
use Rattle.model.specs.Register.{counter_total, point_total, run_total, words_needed, illegal_total, flag_of, samples_of, counts_of, unknowns_of, runs_of, sequences, next_runs, all_lengths, run_stretches, sampled_words, report_words, sampled_report, long_enough, in_widths}
use Rattle.model.proofs.WellFormed.{WellFormed}
use Rattle.model.proofs.Lists.{length-up_from, head_tail, length-keep}
use Rattle.model.proofs.RunBits.{as_bit_eqb}
use Rattle.arrays.specs.Put.{put}
use Rattle.arrays.specs.Flat.{hit_flags, kind_of, kinds_of, reading_code, reading_codes}
use Rattle.arrays.specs.declared.reading.Reading as code
use Rattle.arrays.proofs.FlatLaws.{from_code}
use Rattle.arrays.proofs.PutLaws.{length-put, put-zero, put-at}
use Rattle.sequences.proofs.Sequences.{length_next_runs}
use Rattle.places.specs.Places.{is_set}
use Rattle.samples.specs.Adds.{add_hits, is_unknown_code, all_room, reported, illegal_kind, illegal_flags}
use Rattle.samples.specs.Writes.{runs_after, flags_after, report_of, counts_after, Countable}

-- ---- a list in parts

-- the elements from a on, part by part
part : {A : Type 0} (l : List A) (a n : ℕ) → drop a l ≡ take n (drop a l) ++ drop (a + n) l
part l a n = sym (take-append-drop n (drop a l)) ∙ ap (take n (drop a l) ++◌) (drop-drop n a l)

regroup : {A : Type 0} (x y z q : List A) → x ++ (y ++ (z ++ q)) ≡ x ++ y ++ z ++ q
regroup x y z q = sym (append_assoc (x ++ y) z q ∙ append_assoc x y (z ++ q))

parts : {A : Type 0} (l : List A) (a c p r : ℕ) → drop a l ≡ take c (drop a l) ++ take p (drop (a + c) l) ++ take r (drop (a + c + p) l) ++ drop (a + c + p + r) l
parts l a c p r =
    let x = take c (drop a l) in
    let y = take p (drop (a + c) l) in
    let z = take r (drop (a + c + p) l) in
    part l a c ∙ ap (x ++◌) (part l (a + c) p ∙ ap (y ++◌) (part l (a + c + p) r)) ∙ regroup x y z (drop (a + c + p + r) l)

-- ---- lengths

pub length-add_hits : {A : Type 0} (f : A → Bool) (xs : List A) (ns : List ℕ) → length xs ≡ length ns → length (add_hits f xs ns) ≡ length ns
unfolding add_hits pair_up
length-add_hits f [] [] e = refl
length-add_hits f [] (n ∷ ns) e = absurd (omega arith)
length-add_hits f (x ∷ xs) [] e = absurd (omega arith)
length-add_hits f (x ∷ xs) (n ∷ ns) e = ap suc (length-add_hits f xs ns (omega arith))

-- ---- a sample's counts

-- counts raised by flags are counts raised by what has the flags
adds_map : {A B : Type 0} (f : B → Bool) (g : A → B) (h : A → Bool) → ((x : A) → f (g x) ≡ h x) → (xs : List A) (ns : List ℕ)
    → add_hits f (map g xs) ns ≡ pair_up (λ x n. as_bit (h x) + n) xs ns
unfolding add_hits pair_up
adds_map f g h e [] ns = refl
adds_map f g h e (x ∷ xs) [] = refl
adds_map f g h e (x ∷ xs) (n ∷ ns) = ap₂ ◌∷◌ (ap (λ (b : Bool). as_bit b + n) (e x)) (adds_map f g h e xs ns)

pub counts-raised : (t : Table) (s : List ℕ) (m : Stretches) (cs : List Counter) (ns : List ℕ)
    → add_hits is_set (hit_flags t s m cs) ns ≡ pair_up (λ c n. as_bit (hits t s m c) + n) cs ns
unfolding hit_flags
counts-raised t s m cs ns = adds_map is_set (λ c. as_bit (hits t s m c)) (hits t s m) (λ c. as_bit_eqb (hits t s m c)) cs ns

module _ (t : Table) (s : List ℕ) where
  unknown_code : (p : ℕ) → is_unknown_code (reading_code (reading t s p)) ≡ adds_unknown t s p
  unknown_code p = ap is_unknown (from_code (reading t s p))

  pub unknowns_raised : (ns : List ℕ) → add_hits is_unknown_code (reading_codes t s) ns ≡ pair_up (λ p n. as_bit (adds_unknown t s p) + n) (up_from 0 (point_total t)) ns
  unfolding reading_codes
  unknowns_raised ns = adds_map is_unknown_code (λ p. reading_code (reading t s p)) (adds_unknown t s) unknown_code (up_from 0 (point_total t)) ns

-- ---- the report

kind-illegal : (c : Counter) → illegal_kind (kind_of c) ≡ is_illegal c
kind-illegal (value_bin c) = refl
kind-illegal (default_bin b) = refl
kind-illegal (illegal_bin b) = refl
kind-illegal (transition b) = refl
kind-illegal (illegal_transition b) = refl
kind-illegal (cross_bin c i) = refl
kind-illegal (illegal_cross c i) = refl
kind-illegal (product c cs) = refl

pub flags-reported : (t : Table) (s : List ℕ) (m : Stretches) (cs : List Counter)
    → illegal_flags (kinds_of cs) (hit_flags t s m cs) ≡ map (λ c. as_bit (hits t s m c)) (keep is_illegal cs)
unfolding illegal_flags kinds_of hit_flags keep
flags-reported t s m [] = refl
flags-reported t s m (c ∷ cs) = ap₂ (λ (b : Bool) (xs : List ℕ). reported b (as_bit (hits t s m c)) ++ xs) (kind-illegal c) (flags-reported t s m cs) ∙ go (is_illegal c)
  where
    go : (b : Bool) → reported b (as_bit (hits t s m c)) ++ map (λ c. as_bit (hits t s m c)) (keep is_illegal cs) ≡ map (λ c. as_bit (hits t s m c)) (cond b (c ∷ keep is_illegal cs) (keep is_illegal cs))
    go true = refl
    go false = refl

-- as many words as the table has illegal counters
report-many : (t : Table) (s : List ℕ) (m : Stretches) → length (report_of t (hit_flags t s m (counters t))) ≡ illegal_total t
unfolding illegal_total
report-many t s m =
    ap length (flags-reported t s m (counters t)) ∙ length-map (keep is_illegal (counters t)) (λ c. as_bit (hits t s m c)) ∙ length-keep is_illegal (counters t)

pub report-length : (t : Table) (s w : List ℕ) → length (report_of t (flags_after t s w)) ≡ illegal_total t
unfolding flags_after
report-length t s w = report-many t s (run_stretches (all_lengths t.transition_bins (runs_after t s w)))

pub report-exact : (t : Table) (s w r : List ℕ) → put 0 (report_of t (flags_after t s w)) r ≡ sampled_report t s w r
unfolding sampled_report report_words flags_after runs_after
report-exact t s w r =
    let m = run_stretches (all_lengths t.transition_bins (next_runs t s (sequences t) (runs_of t w))) in
    put-zero (report_of t (hit_flags t s m (counters t))) r
    ∙ ap₂ (λ (xs : List ℕ) (n : ℕ). xs ++ drop n r) (flags-reported t s m (counters t)) (report-many t s m)

-- ---- the register

pub flags_length : (t : Table) (s : List ℕ) (m : Stretches) → length (hit_flags t s m (counters t)) ≡ counter_total t
unfolding hit_flags
flags_length t s m = length-map (counters t) (λ c. as_bit (hits t s m c))

pub flags-after-length : (t : Table) (s w : List ℕ) → length (flags_after t s w) ≡ counter_total t
unfolding flags_after
flags-after-length t s w = flags_length t s (run_stretches (all_lengths t.transition_bins (runs_after t s w)))

pub codes-length : (t : Table) (s : List ℕ) → length (reading_codes t s) ≡ point_total t
unfolding reading_codes
codes-length t s = length-map (up_from 0 (point_total t)) (λ p. reading_code (reading t s p)) ∙ length-up_from 0 (point_total t)

module _ (t : Table) (ok : WellFormed t) (s w : List ℕ) (long : long_enough t w ≡ true) (widths : in_widths t s ≡ true) where
  at : ℕ
  at = 2 + counter_total t + point_total t

  rest : List ℕ
  rest = drop (words_needed t) w

  room : 2 + counter_total t + point_total t + run_total t ≤ length w
  unfolding words_needed
  room = leb-true (words_needed t) (length w) long

  counts_length : length (counts_of t w) ≡ counter_total t
  unfolding counts_of
  counts_length = length-take-le (counter_total t) (drop 2 w) (simp length-drop (omega (arith, room)))

  unknowns_length : length (unknowns_of t w) ≡ point_total t
  unfolding unknowns_of
  unknowns_length = length-take-le (point_total t) (drop (2 + counter_total t) w) (simp length-drop (omega (arith, room)))

  runs_length : length (runs_of t w) ≡ run_total t
  unfolding runs_of at
  runs_length = length-take-le (run_total t) (drop at w) (simp length-drop (omega (arith, room)))

  pub runs_after_length : length (runs_after t s w) ≡ run_total t
  unfolding runs_after
  runs_after_length = length_next_runs t s (sequences t) (runs_of t w) (omega (arith, runs_length))

  split : w ≡ flag_of w ∷ samples_of w ∷ counts_of t w ++ unknowns_of t w ++ runs_of t w ++ rest
  unfolding counts_of unknowns_of runs_of rest words_needed
  split =
      head_tail w 0 0 (omega (arith, room))
      ∙ ap (flag_of w ∷◌) (head_tail w 1 0 (omega (arith, room)) ∙ ap (samples_of w ∷◌) (parts w 2 (counter_total t) (point_total t) (run_total t)))

  -- the register after the run words are written
  after : List ℕ
  after = flag_of w ∷ samples_of w ∷ counts_of t w ++ unknowns_of t w ++ runs_after t s w ++ rest

  runs_written : put at (runs_after t s w) w ≡ after
  unfolding at after
  runs_written =
      ap (put at (runs_after t s w)) split
      ∙ put-at at (flag_of w ∷ samples_of w ∷ counts_of t w ++ unknowns_of t w) (runs_after t s w) (runs_of t w) rest
      (omega (arith, length-append (counts_of t w) (unknowns_of t w), counts_length, unknowns_length))
      (runs_after_length ∙ sym runs_length)

  module _ (w₁ : List ℕ) (e₁ : w₁ ≡ put (2 + counter_total t + point_total t) (runs_after t s w) w) where
    is-after : w₁ ≡ after
    unfolding at
    is-after = e₁ ∙ runs_written

    tail-after : drop 2 w₁ ≡ counts_of t w ++ (unknowns_of t w ++ (runs_after t s w ++ rest))
    unfolding after
    tail-after = ap (drop 2) is-after ∙ sym (regroup (counts_of t w) (unknowns_of t w) (runs_after t s w) rest)

    counts-there : take (counter_total t) (drop 2 w₁) ≡ counts_of t w
    counts-there = ap (take (counter_total t)) tail-after ∙ take_at (counts_of t w) (unknowns_of t w ++ (runs_after t s w ++ rest)) (counter_total t) counts_length

    unknowns-there : take (point_total t) (drop (2 + counter_total t) w₁) ≡ unknowns_of t w
    unknowns-there =
        ap (take (point_total t)) (sym (drop-drop (counter_total t) 2 w₁) ∙ ap (drop (counter_total t)) tail-after ∙ drop_at (counts_of t w) (unknowns_of t w ++ (runs_after t s w ++ rest)) (counter_total t) counts_length)
        ∙ take_at (unknowns_of t w) (runs_after t s w ++ rest) (point_total t) unknowns_length

    samples-there : get_or w₁ 1 0 ≡ samples_of w
    unfolding after
    samples-there = ap (λ (l : List ℕ). get_or l 1 0) is-after

    length-there : length w₁ ≡ length w
    length-there = ap length e₁ ∙ length-put (2 + counter_total t + point_total t) (runs_after t s w) w (omega (arith, runs_after_length, room))

    pub countable : all_room (counts_of t w) ≡ true → all_room (unknowns_of t w) ≡ true → samples_of w < 4294967295 → Countable (counter_total t) (point_total t) w₁
    countable hc hu hs = record {
      there = omega (arith, length-there, room);
      samples = omega (arith, samples-there, hs);
      counts = ap all_room counts-there ∙ hc;
      unknowns = ap all_room unknowns-there ∙ hu;
    }

    pub words-exact : (flags : List ℕ) (codes : List code.Reading) (w₂ : List ℕ) → take (counter_total t) flags ≡ flags_after t s w → take (point_total t) codes ≡ reading_codes t s
        → w₂ ≡ put 1 (counts_after (counter_total t) (point_total t) flags codes w₁) w₁ → w₂ ≡ sampled_words t s w
    unfolding counts_after sampled_words flags_after runs_after after rest
    words-exact flags codes w₂ ef ec e₂ =
        let n = samples_of w in
        let ks = counts_of t w in
        let us = unknowns_of t w in
        let rs = runs_after t s w in
        let m = run_stretches (all_lengths t.transition_bins rs) in
        let k = pair_up (λ c n. as_bit (hits t s m c) + n) (counters t) ks in
        let u = pair_up (λ p n. as_bit (adds_unknown t s p) + n) (up_from 0 (point_total t)) us in
        let ek : add_hits is_set (take (counter_total t) flags) (take (counter_total t) (drop 2 w₁)) ≡ k = ap₂ (add_hits is_set) ef counts-there ∙ counts-raised t s m (counters t) ks in
        let eu : add_hits is_unknown_code (take (point_total t) codes) (take (point_total t) (drop (2 + counter_total t) w₁)) ≡ u = ap₂ (add_hits is_unknown_code) ec unknowns-there ∙ unknowns_raised t s us in
        let lk : length k ≡ length ks = ap length (sym (counts-raised t s m (counters t) ks)) ∙ length-add_hits is_set (hit_flags t s m (counters t)) ks (flags_length t s m ∙ sym counts_length) in
        let lu : length u ≡ length us = ap length (sym (unknowns_raised t s us)) ∙ length-add_hits is_unknown_code (reading_codes t s) us (codes-length t s ∙ sym unknowns_length) in
        let new : counts_after (counter_total t) (point_total t) flags codes w₁ ≡ suc n ∷ k ++ u =
        ap₂ (λ (x : ℕ) (xs : List ℕ). suc x ∷ xs) samples-there (ap₂ ◌++◌ ek eu) in
        let old : w₁ ≡ (flag_of w ∷ []) ++ (n ∷ ks ++ us) ++ (rs ++ rest) = is-after ∙ ap (λ (l : List ℕ). flag_of w ∷ n ∷ l) (append_assoc (ks ++ us) rs rest) in
        e₂ ∙ ap₂ (put 1) new old
        ∙ put-at 1 (flag_of w ∷ []) (suc n ∷ k ++ u) (n ∷ ks ++ us) (rs ++ rest) refl (omega (arith, length-append k u, length-append ks us))
        ∙ ap (λ (l : List ℕ). flag_of w ∷ suc n ∷ l) (sym (append_assoc (k ++ u) rs rest))
