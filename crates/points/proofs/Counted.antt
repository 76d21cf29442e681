-- The counters of a point are the point's.
-- Assumes nothing.
use mathlib.Core.Path.{◌≡◌, refl, sym, ap, ◌∙◌}
use mathlib.Core.Bool.{Bool, true, false, not, ◌&&◌, cond, and-false}
use mathlib.Core.List.{List, [], ◌∷◌, ◌++◌, map}
use Prim.Native.Nat.{ℕ, suc, ◌+◌, ◌<◌}
use native.Mathlib.Omega.{arith}
use lib.Dec.{eqb}
use lib.ListN.{length, get_or, replicate}
use borrow.Author.Tests.{eqb-true}
use Rattle.model.specs.Lists.{up_from, as_bit}
use Rattle.model.specs.Table.{Kind, cover, ignore, illegal, default, ValueBin, TransitionBin, Table, no_value_bin, no_transition_bin}
use Rattle.model.specs.Values.{in_ranges, bin_count}
use Rattle.model.specs.Counters.{listed, auto, Counter, value_bin, default_bin, illegal_bin, transition, illegal_transition, cross_bin, illegal_cross, product, point_at, value_bin_at, transition_bin_at, point_of, auto_count, has_auto, holds, listed_value, bin_counters, value_counters, transition_counter, transition_counters, auto_counters}
use Rattle.model.specs.Sampling.{guard_true, reading, is_in, Stretches, cover_guard, cover_hit, hits}
use Rattle.model.proofs.Readers.{All, all_append}
use Rattle.model.proofs.Lists.{all_row, map_one}
use Rattle.arrays.specs.Flat.{hit_flags}

-- ---- a point's counters

-- a counter of one of the point's value bins or auto bins
abbrev pub ValueOf : Table → ℕ → Counter → Type 0
ValueOf t p (value_bin c) = point_of t c ≡ p
ValueOf t p (default_bin b) = (value_bin_at t b).point ≡ p
ValueOf t p (illegal_bin b) = (value_bin_at t b).point ≡ p
ValueOf t p (transition b) = ⊥
ValueOf t p (illegal_transition b) = ⊥
ValueOf t p (cross_bin c i) = ⊥
ValueOf t p (illegal_cross c i) = ⊥
ValueOf t p (product c cs) = ⊥

-- of one of its transition bins
abbrev pub TransitionOf : Table → ℕ → Counter → Type 0
TransitionOf t p (value_bin c) = ⊥
TransitionOf t p (default_bin b) = ⊥
TransitionOf t p (illegal_bin b) = ⊥
TransitionOf t p (transition b) = (transition_bin_at t b).point ≡ p
TransitionOf t p (illegal_transition b) = (transition_bin_at t b).point ≡ p
TransitionOf t p (cross_bin c i) = ⊥
TransitionOf t p (illegal_cross c i) = ⊥
TransitionOf t p (product c cs) = ⊥

module _ (t : Table) (p : ℕ) where
  bin_of_lem : (b : ℕ) (k : Kind) (n : ℕ) → (value_bin_at t b).point ≡ p → All (ValueOf t p) (bin_counters b k n)
  bin_of_lem b cover n e = all_row (ValueOf t p) (λ k. value_bin (listed b k)) 0 n (λ k lo hi. e)
  bin_of_lem b ignore n e = tt
  bin_of_lem b illegal n e = (e, tt)
  bin_of_lem b default n e = (e, tt)

  values_of : (b : ℕ) (us : List ValueBin) → ((i : ℕ) → i < length us → get_or us i no_value_bin ≡ value_bin_at t (b + i)) → All (ValueOf t p) (value_counters t p b us)
  unfolding value_counters
  values_of b [] h = tt
  values_of b (u ∷ us) h =
      all_append (ValueOf t p) (cond (eqb u.point p) (bin_counters b u.kind (bin_count (point_at t p) u.form u.ranges)) []) (value_counters t p (suc b) us)
      (go (eqb u.point p) refl)
      (values_of (suc b) us (λ i k. h (suc i) (omega arith) ∙ ap (value_bin_at t) (let z : b + suc i ≡ suc b + i = omega arith in z)))
    where
      here : value_bin_at t b ≡ u
      here = sym (h 0 (omega arith) ∙ ap (value_bin_at t) (let z : b + 0 ≡ b = omega arith in z))

      go : (c : Bool) → eqb u.point p ≡ c → All (ValueOf t p) (cond c (bin_counters b u.kind (bin_count (point_at t p) u.form u.ranges)) [])
      go true e = bin_of_lem b u.kind _ (ap (λ (x : ValueBin). x.point) here ∙ eqb-true u.point p e)
      go false e = tt

  auto_of : All (ValueOf t p) (auto_counters t p)
  auto_of = go (has_auto t p)
    where
      go : (c : Bool) → All (ValueOf t p) (cond c (map (λ k. value_bin (auto p k)) (up_from 0 (auto_count (point_at t p)))) [])
      go true = all_row (ValueOf t p) (λ k. value_bin (auto p k)) 0 (auto_count (point_at t p)) (λ k lo hi. refl)
      go false = tt

  pub all_values : All (ValueOf t p) (value_counters t p 0 t.value_bins ++ auto_counters t p)
  all_values =
      all_append (ValueOf t p) (value_counters t p 0 t.value_bins) (auto_counters t p)
      (values_of 0 t.value_bins (λ i k. ap (value_bin_at t) (let z : i ≡ 0 + i = omega arith in z))) auto_of

  transitions_of : (b : ℕ) (us : List TransitionBin) → ((i : ℕ) → i < length us → get_or us i no_transition_bin ≡ transition_bin_at t (b + i)) → All (TransitionOf t p) (transition_counters p b us)
  unfolding transition_counters
  transitions_of b [] h = tt
  transitions_of b (u ∷ us) h =
      all_append (TransitionOf t p) (cond (eqb u.point p) (transition_counter b u.kind) []) (transition_counters p (suc b) us)
      (go (eqb u.point p) refl u.kind)
      (transitions_of (suc b) us (λ i k. h (suc i) (omega arith) ∙ ap (transition_bin_at t) (let z : b + suc i ≡ suc b + i = omega arith in z)))
    where
      here : transition_bin_at t b ≡ u
      here = sym (h 0 (omega arith) ∙ ap (transition_bin_at t) (let z : b + 0 ≡ b = omega arith in z))

      go : (c : Bool) → eqb u.point p ≡ c → (k : Kind) → All (TransitionOf t p) (cond c (transition_counter b k) [])
      go true e cover = (ap (λ (x : TransitionBin). x.point) here ∙ eqb-true u.point p e, tt)
      go true e ignore = tt
      go true e illegal = (ap (λ (x : TransitionBin). x.point) here ∙ eqb-true u.point p e, tt)
      go true e default = tt
      go false e k = tt

  pub all_transitions : All (TransitionOf t p) (transition_counters p 0 t.transition_bins)
  all_transitions = transitions_of 0 t.transition_bins (λ i k. ap (transition_bin_at t) (let z : i ≡ 0 + i = omega arith in z))

-- ---- what a sample hits of the value bins

module _ (t : Table) (w : List ℕ) (p : ℕ) where
  -- nothing is hit where the reading is no value
  module _ (none : (f : ℕ → Bool) → is_in f (reading t w p) ≡ false) (m : Stretches) where
    no-reading : (q : ℕ) → q ≡ p → (b : Bool) (f : ℕ → Bool) → as_bit (b && is_in f (reading t w q)) ≡ 0
    no-reading q e b f = ap (λ (x : Bool). as_bit (b && x)) (ap (λ (x : ℕ). is_in f (reading t w x)) e ∙ none f) ∙ ap as_bit (and-false b)

    no_hit : (c : Counter) → ValueOf t p c → as_bit (hits t w m c) ≡ 0
    unfolding hits cover_hit
    no_hit (value_bin c) e = no-reading (point_of t c) e (guard_true w (cover_guard t c)) (holds t c)
    no_hit (default_bin b) e = no-reading (value_bin_at t b).point e (guard_true w (value_bin_at t b).guard) (λ v. not (listed_value t (value_bin_at t b).point v))
    no_hit (illegal_bin b) e = no-reading (value_bin_at t b).point e (guard_true w (value_bin_at t b).guard) (in_ranges (value_bin_at t b).ranges)
    no_hit (transition b) e = absurd e
    no_hit (illegal_transition b) e = absurd e
    no_hit (cross_bin c i) e = absurd e
    no_hit (illegal_cross c i) e = absurd e
    no_hit (product c cs) e = absurd e

    pub no_hits : hit_flags t w m (value_counters t p 0 t.value_bins ++ auto_counters t p) ≡ replicate (length (value_counters t p 0 t.value_bins ++ auto_counters t p)) 0
    unfolding hit_flags
    no_hits = map_one (ValueOf t p) (λ c. as_bit (hits t w m c)) 0 no_hit (value_counters t p 0 t.value_bins ++ auto_counters t p) (all_values t p)
