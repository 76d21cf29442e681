-- The flags of a point's transition bins, by the places of their records, are the model's hits.
-- Assumes nothing.
use mathlib.Core.Path.{◌≡◌, refl, sym, ap, ap₂, ◌∙◌, subst}
use mathlib.Core.Bool.{Bool, true, false, not, ◌&&◌, ◌||◌, cond, or-false, or_assoc}
use mathlib.Core.List.{List, [], ◌∷◌, ◌++◌, map, map-append}
use Prim.Native.Nat.{ℕ, zero, suc, ◌+◌, ◌-◌, ◌*◌, ◌^◌, ◌<◌}
use native.Mathlib.Omega.{arith}
use native.Mathlib.Numerals.{add-one}
use lib.Dec.{eqb}
use lib.Bits.{bit_or}
use lib.ListN.{length, get_or, take}
use lib.Seq.{get_or-take}
use borrow.Author.Tests.{eqb-true}
use Rattle.model.specs.Lists.{up_from, any, as_bit, bit}
use Rattle.model.specs.Table.{Kind, cover, ignore, illegal, default, Guard, TransitionBin, Table, excludes, no_transition_bin}
use Rattle.model.specs.Counters.{transition, illegal_transition, transition_bin_at, transition_counter, transition_counters}
use Rattle.model.specs.Sampling.{guard_true, reading, is_skipped, excluded_match, transition_guards, hits}
use Rattle.model.specs.Format.{byte, kind_from, guard_from, accepted, table_of}
use Rattle.model.specs.Raw.{transition_at, transitions_at, step_total, range_total, records_place, record_count, raw_table}
use Rattle.model.specs.Register.{run_stretches}
use Rattle.model.proofs.Lists.{any_same}
use Rattle.model.proofs.RawExact.{accepted_raw}
use Rattle.model.proofs.RunBits.{bit-or, bit-zero}
use Rattle.arrays.specs.Flat.{hit_flags}
use Rattle.layout.specs.declared.Layout.{Layout}
use Rattle.layout.specs.Places.{layout_of}
use Rattle.points.specs.Hits.{transition_hits}
use Rattle.points.specs.Transitions.{lost_with, lost_lengths, flags_by, flags_of, flags_from, transition_flags}
use Rattle.points.proofs.WordLaws.{some_left, some-length}

-- ---- what is lost

-- bin b takes the length of bit k away from point p
abbrev takes : List ℕ → List ℕ → ℕ → ℕ → ℕ → ℕ → Bool
takes s lens p b k i = eqb (byte s (b + 4 * i)) p && excludes (kind_from (byte s (b + 4 * i + 1))) && bit k (get_or lens i 0)

lost-bit : (s lens : List ℕ) (p b k n i before : ℕ) → bit k (lost_lengths s lens p b i n before) ≡ (bit k before || any (takes s lens p b k) (up_from i n))
unfolding lost_lengths up_from any
lost-bit s lens p b k zero i before = sym (or-false (bit k before))
lost-bit s lens p b k (suc n) i before =
    lost-bit s lens p b k n (i + 1) (lost_with s p (b + 4 * i) before (get_or lens i 0))
    ∙ ap₂ ◌||◌ (go (eqb (byte s (b + 4 * i)) p && excludes (kind_from (byte s (b + 4 * i + 1))))) (ap (λ (j : ℕ). any (takes s lens p b k) (up_from j n)) (add-one i))
    ∙ or_assoc (bit k before) (takes s lens p b k i) (any (takes s lens p b k) (up_from (suc i) n))
  where
    go : (c : Bool) → bit k (cond c (bit_or before (get_or lens i 0)) before) ≡ (bit k before || (c && bit k (get_or lens i 0)))
    go true = bit-or k before (get_or lens i 0)
    go false = sym (or-false (bit k before))

-- ---- the bins by number

-- what the record at `at` says of a bin
record Head (s : List ℕ) (at : ℕ) (u : TransitionBin) : Type 0 where
  pub point : u.point ≡ byte s at
  pub kind : u.kind ≡ kind_from (byte s (at + 1))
  pub guard : u.guard ≡ guard_from (byte s (at + 2))

head_at : (s : List ℕ) (n b q k r j : ℕ) → j < n → Head s (b + 4 * j) (get_or (transitions_at s b q k r n) j no_transition_bin)
unfolding transitions_at
head_at s zero b q k r j h = absurd (omega arith)
head_at s (suc n) b q k r zero h =
    subst (λ (at : ℕ). Head s at (transition_at s b q k r)) (let z : b ≡ b + 4 * 0 = omega arith in z) (record { point = refl; kind = refl; guard = refl })
head_at s (suc n) b q k r (suc j) h =
    subst (λ (at : ℕ). Head s at (get_or (transitions_at s (b + 4) (q + byte s (b + 3)) (k + 3 * step_total s q (byte s (b + 3))) (r + 17 * range_total s k (step_total s q (byte s (b + 3)))) n) j no_transition_bin)) (let z : (b + 4) + 4 * j ≡ b + 4 * suc j = omega arith in z)
    (head_at s n (b + 4) (q + byte s (b + 3)) (k + 3 * step_total s q (byte s (b + 3))) (r + 17 * range_total s k (step_total s q (byte s (b + 3)))) j (omega arith))

pub length-transitions : (s : List ℕ) (n b q k r : ℕ) → length (transitions_at s b q k r n) ≡ n
unfolding transitions_at
length-transitions s zero b q k r = refl
length-transitions s (suc n) b q k r = ap suc (length-transitions s n (b + 4) _ _ _)

-- ---- the hits

module _ (s w lens : List ℕ) (t : Table) (b K : ℕ) (many : length t.transition_bins ≡ K) (heads : (j : ℕ) → j < K → Head s (b + 4 * j) (transition_bin_at t j)) (words : (j : ℕ) → get_or lens j 0 < 2 ^ 32) (p : ℕ) where
  word_is : (j : ℕ) → j < K → get_or (take K lens) j 0 ≡ get_or lens j 0
  word_is j h = get_or-take K lens j 0 h

  -- a length is lost
  lost_is : (l : ℕ) → excluded_match t (run_stretches (take K lens)) p l ≡ bit (l - 1) (lost_lengths s lens p b 0 K 0)
  unfolding excluded_match
  lost_is l =
      ap (λ (n : ℕ). any (λ j. eqb (transition_bin_at t j).point p && excludes (transition_bin_at t j).kind && bit (l - 1) (get_or (take K lens) j 0)) (up_from 0 n)) many
      ∙ any_same (λ j. eqb (transition_bin_at t j).point p && excludes (transition_bin_at t j).kind && bit (l - 1) (get_or (take K lens) j 0)) (takes s lens p b (l - 1)) 0 K
      (λ j lo hi.
      let h = heads j (omega arith) in
      ap₂ (λ (x : ℕ) (y : Kind). eqb x p && excludes y && bit (l - 1) (get_or (take K lens) j 0)) h.point h.kind
      ∙ ap (λ (x : ℕ). eqb (byte s (b + 4 * j)) p && excludes (kind_from (byte s (b + 4 * j + 1))) && bit (l - 1) x) (word_is j (omega arith)))
      ∙ sym (lost-bit s lens p b (l - 1) K 0 0 ∙ ap (◌|| any (takes s lens p b (l - 1)) (up_from 0 K)) (bit-zero (l - 1)))

  module _ (i : ℕ) (inside : i < K) (own : byte s (b + 4 * i) ≡ p) where
    point_is : (transition_bin_at t i).point ≡ p
    point_is = (heads i inside).point ∙ own

    live : transition_guards t w i ≡ (guard_true w (guard_from (byte s (b + 4 * i + 2))) && not (is_skipped (reading t w p)))
    live = ap₂ (λ (g : Guard) (q : ℕ). guard_true w g && not (is_skipped (reading t w q))) (heads i inside).guard point_is

    cover-hit : as_bit (hits t w (run_stretches (take K lens)) (transition i))
        ≡ as_bit ((guard_true w (guard_from (byte s (b + 4 * i + 2))) && not (is_skipped (reading t w p))) && not (eqb (bit_or (get_or lens i 0) (lost_lengths s lens p b 0 K 0)) (lost_lengths s lens p b 0 K 0)))
    unfolding hits
    cover-hit =
        ap as_bit (ap₂ ◌&&◌ live
        (any_same (λ l. bit (l - 1) (get_or (take K lens) i 0) && not (excluded_match t (run_stretches (take K lens)) (transition_bin_at t i).point l)) (λ l. bit (l - 1) (get_or lens i 0) && not (bit (l - 1) (lost_lengths s lens p b 0 K 0))) 1 32
        (λ l lo hi.
        ap₂ (λ (x q : ℕ). bit (l - 1) x && not (excluded_match t (run_stretches (take K lens)) q l)) (word_is i inside) point_is
        ∙ ap (λ (c : Bool). bit (l - 1) (get_or lens i 0) && not c) (lost_is l))
        ∙ some_left (get_or lens i 0) (lost_lengths s lens p b 0 K 0) (words i)))

    illegal-hit : as_bit (hits t w (run_stretches (take K lens)) (illegal_transition i)) ≡ as_bit ((guard_true w (guard_from (byte s (b + 4 * i + 2))) && not (is_skipped (reading t w p))) && not (eqb (get_or lens i 0) 0))
    unfolding hits
    illegal-hit =
        ap as_bit (ap₂ ◌&&◌ live
        (ap (λ (x : ℕ). any (λ l. bit (l - 1) x) (up_from 1 32)) (word_is i inside) ∙ some-length (get_or lens i 0) (words i)))

    by_kind : (k : Kind) → map (λ c. as_bit (hits t w (run_stretches (take K lens)) c)) (transition_counter i k)
        ≡ flags_by k (guard_true w (guard_from (byte s (b + 4 * i + 2))) && not (is_skipped (reading t w p))) (lost_lengths s lens p b 0 K 0) (get_or lens i 0)
    by_kind cover = ap (◌∷ []) cover-hit
    by_kind ignore = refl
    by_kind illegal = ap (◌∷ []) illegal-hit
    by_kind default = refl

  all_hits : (n i q k r : ℕ) → i + n ≡ K
      → map (λ c. as_bit (hits t w (run_stretches (take K lens)) c)) (transition_counters p i (transitions_at s (b + 4 * i) q k r n)) ≡ flags_from s w lens p (is_skipped (reading t w p)) (lost_lengths s lens p b 0 K 0) b i n
  unfolding transition_counters transitions_at flags_from flags_of
  all_hits zero i q k r e = refl
  all_hits (suc n) i q k r e =
      map-append (λ c. as_bit (hits t w (run_stretches (take K lens)) c)) (cond (eqb (byte s (b + 4 * i)) p) (transition_counter i (kind_from (byte s (b + 4 * i + 1)))) []) (transition_counters p (suc i) others)
      ∙ ap₂ ◌++◌ (go (eqb (byte s (b + 4 * i)) p) refl)
      (ap₂ (λ (x y : ℕ). map (λ c. as_bit (hits t w (run_stretches (take K lens)) c)) (transition_counters p x (transitions_at s y q' k' r' n))) (sym (add-one i)) (let z : b + 4 * i + 4 ≡ b + 4 * (i + 1) = omega arith in z)
      ∙ all_hits n (i + 1) q' k' r' (omega arith))
    where
      q' : ℕ
      q' = q + byte s (b + 4 * i + 3)

      k' : ℕ
      k' = k + 3 * step_total s q (byte s (b + 4 * i + 3))

      r' : ℕ
      r' = r + 17 * range_total s k (step_total s q (byte s (b + 4 * i + 3)))

      others : List TransitionBin
      others = transitions_at s (b + 4 * i + 4) q' k' r' n

      go : (c : Bool) → eqb (byte s (b + 4 * i)) p ≡ c
          → map (λ c. as_bit (hits t w (run_stretches (take K lens)) c)) (cond c (transition_counter i (kind_from (byte s (b + 4 * i + 1)))) [])
          ≡ cond c (flags_by (kind_from (byte s (b + 4 * i + 1))) (guard_true w (guard_from (byte s (b + 4 * i + 2))) && not (is_skipped (reading t w p))) (lost_lengths s lens p b 0 K 0) (get_or lens i 0)) []
      go true z = by_kind i (omega arith) (eqb-true (byte s (b + 4 * i)) p z) (kind_from (byte s (b + 4 * i + 1)))
      go false z = refl

module _ (s : List ℕ) (ok : accepted s ≡ true) where
  pub bins_are : (table_of s).transition_bins ≡ transitions_at s (records_place s 3) (records_place s 4) (records_place s 5) (records_place s 6) (record_count s 3)
  unfolding raw_table
  bins_are = ap (λ (u : Table). u.transition_bins) (accepted_raw s ok)

  pub bins_many : length (table_of s).transition_bins ≡ record_count s 3
  bins_many = ap length bins_are ∙ length-transitions s (record_count s 3) (records_place s 3) (records_place s 4) (records_place s 5) (records_place s 6)

module _ (s w lens : List ℕ) (ok : accepted s ≡ true) (words : (j : ℕ) → get_or lens j 0 < 2 ^ 32) (p : ℕ) where
  raw_hits : transition_hits (table_of s) w (take (record_count s 3) lens) p ≡ transition_flags s w lens p (is_skipped (reading (table_of s) w p)) (records_place s 3) (record_count s 3)
  unfolding transition_hits hit_flags transition_flags
  raw_hits =
      let t = table_of s in
      let K = record_count s 3 in
      let b = records_place s 3 in
      ap (λ (us : List TransitionBin). map (λ c. as_bit (hits t w (run_stretches (take K lens)) c)) (transition_counters p 0 us))
      ((bins_are s ok) ∙ ap (λ (at : ℕ). transitions_at s at (records_place s 4) (records_place s 5) (records_place s 6) K) (let z : b ≡ b + 4 * 0 = omega arith in z))
      ∙ all_hits s w lens t b K (bins_many s ok)
      (λ j h. subst (λ (us : List TransitionBin). Head s (b + 4 * j) (get_or us j no_transition_bin)) (sym (bins_are s ok)) (head_at s K b (records_place s 4) (records_place s 5) (records_place s 6) j h))
      words p K 0 (records_place s 4) (records_place s 5) (records_place s 6) (omega arith)

  module _ (l : Layout) (e : l ≡ layout_of s) where
    pub transition_count : l.transition_count ≡ length (table_of s).transition_bins
    unfolding layout_of
    transition_count = ap (λ (x : Layout). x.transition_count) e ∙ sym (bins_many s ok)

    pub transition-hits : transition_hits (table_of s) w (take (length (table_of s).transition_bins) lens) p ≡ transition_flags s w lens p (is_skipped (reading (table_of s) w p)) l.transitions l.transition_count
    unfolding layout_of
    transition-hits =
        ap (λ (n : ℕ). transition_hits (table_of s) w (take n lens) p) (bins_many s ok) ∙ raw_hits
        ∙ sym (ap (λ (x : Layout). transition_flags s w lens p (is_skipped (reading (table_of s) w p)) x.transitions x.transition_count) e)
