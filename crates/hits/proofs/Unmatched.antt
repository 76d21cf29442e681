-- Where no bin has a matched length, no transition bin is hit.
-- Assumes nothing.
use mathlib.Core.Path.{◌≡◌, refl, sym, ap, ap₂, ◌∙◌, subst, fun_ext}
use mathlib.Core.Bool.{Bool, false, not, ◌&&◌, ◌||◌, and-false, or-false, or_assoc}
use mathlib.Core.List.{List, [], ◌∷◌, ◌++◌}
use Prim.Native.Nat.{ℕ, zero, suc, ◌+◌, ◌-◌, ◌≤◌, ◌<◌}
use lib.Dec.{eqb}
use lib.ListN.{length, get_or, take, drop, drop_of_length-le}
use borrow.Author.Tests.{eqb-true, not-false}
use Rattle.model.specs.Lists.{up_from, any, bit}
use Rattle.model.specs.Table.{Table}
use Rattle.model.specs.Counters.{Counter, value_bin, default_bin, illegal_bin, transition, illegal_transition, cross_bin, illegal_cross, product, transition_bin_at, transition_counters}
use Rattle.model.specs.Sampling.{Stretches, transition_guards, excluded_match, hits}
use Rattle.model.specs.Register.{run_stretches}
use Rattle.model.proofs.Readers.{all_map}
use Rattle.model.proofs.Booleans.{or-false-left, or-false-right}
use Rattle.model.proofs.Lists.{head_tail, any_none}
use Rattle.model.proofs.RunBits.{bit-zero}
use Rattle.arrays.specs.Put.{put}
use Rattle.arrays.specs.Flat.{all_point_counters}
use Rattle.arrays.proofs.Written.{Written}
use Rattle.places.specs.Places.{places_from}
use Rattle.places.proofs.PlaceLaws.{places-none}
use Rattle.points.proofs.Counted.{TransitionOf, all_transitions}
use Rattle.hits.specs.Places.{value_places, transition_start, transition_places, any_length, all_places}
use Rattle.hits.proofs.Own.{none_true}
use Rattle.hits.proofs.AllPlaces.{places_after, values-turn}

-- ---- word after word

module _ (lens : List ℕ) where
  pub lengths_turn : (i : ℕ) (some : Bool) → i < length lens → any_length lens ≡ (some || any_length (drop i lens)) → any_length lens ≡ ((some || not (eqb (get_or lens i 0) 0)) || any_length (drop (i + 1) lens))
  unfolding any_length any
  lengths_turn i some h e = e ∙ ap (λ (xs : List ℕ). some || any_length xs) (head_tail lens i 0 h) ∙ sym (or_assoc some (not (eqb (get_or lens i 0) 0)) (any_length (drop (i + 1) lens)))

  pub lengths_end : (i : ℕ) (some : Bool) → length lens ≤ i → any_length lens ≡ (some || any_length (drop i lens)) → some ≡ any_length lens
  unfolding any_length any
  lengths_end i some h e = sym (e ∙ ap (λ (xs : List ℕ). some || any_length xs) (drop_of_length-le lens h) ∙ or-false some)

-- ---- no length among the bins'

front-none : (n : ℕ) (lens : List ℕ) → any_length lens ≡ false → any_length (take n lens) ≡ false
unfolding any_length any
front-none zero lens e = refl
front-none (suc n) [] e = refl
front-none (suc n) (x ∷ xs) e = ap₂ ◌||◌ (or-false-left (not (eqb x 0)) (any_length xs) e) (front-none n xs (or-false-right (not (eqb x 0)) (any_length xs) e))

is_zero : (x : ℕ) → not (eqb x 0) ≡ false → x ≡ 0
is_zero x e = eqb-true x 0 (not-false (eqb x 0) e)

pub no_stretch : (n : ℕ) (lens : List ℕ) → any_length lens ≡ false → run_stretches (take n lens) ≡ run_stretches []
no_stretch n lens e =
    ap (λ (g : ℕ → ℕ). (let m : Stretches = record { lengths = λ p. up_from 1 32; matched = λ b l. bit (l - 1) (g b) } in m))
    (fun_ext (λ b. is_zero (get_or (take n lens) b 0) (none_true (λ x. not (eqb x 0)) 0 refl (take n lens) (unfold any_length in (front-none n lens e)) b)))

-- ---- what is hit

module _ (t : Table) (w : List ℕ) (p : ℕ) where
  none_hit : (c : Counter) → TransitionOf t p c → hits t w (run_stretches []) c ≡ false
  unfolding hits
  none_hit (value_bin c) own = absurd own
  none_hit (default_bin b) own = absurd own
  none_hit (illegal_bin b) own = absurd own
  none_hit (transition b) own =
      ap (transition_guards t w b &&◌) (any_none (λ l. bit (l - 1) 0 && not (excluded_match t (run_stretches []) (transition_bin_at t b).point l)) (up_from 1 32) (λ l. ap (◌&& not (excluded_match t (run_stretches []) (transition_bin_at t b).point l)) (bit-zero (l - 1))))
      ∙ and-false (transition_guards t w b)
  none_hit (illegal_transition b) own = ap (transition_guards t w b &&◌) (any_none (λ l. bit (l - 1) 0) (up_from 1 32) (λ l. bit-zero (l - 1))) ∙ and-false (transition_guards t w b)
  none_hit (cross_bin c i) own = absurd own
  none_hit (illegal_cross c i) own = absurd own
  none_hit (product c cs) own = absurd own

  pub no_transition : transition_places t w [] p ≡ []
  unfolding transition_places
  no_transition =
      places-none (hits t w (run_stretches [])) (transition_start t p) (transition_counters p 0 t.transition_bins)
      (all_map (TransitionOf t p) (λ c. hits t w (run_stretches []) c ≡ false) none_hit (transition_counters p 0 t.transition_bins) (all_transitions t p))

-- as they are read, n of them
pub no_transitions : (t : Table) (w : List ℕ) (p n : ℕ) (lens : List ℕ) → any_length lens ≡ false → transition_places t w (take n lens) p ≡ []
unfolding transition_places
no_transitions t w p n lens e =
    ap (λ (m : Stretches). places_from (hits t w m) (transition_start t p) (transition_counters p 0 t.transition_bins)) (no_stretch n lens e)
    ∙ no_transition t w p

-- ---- point after point

pub unmatched-turn : (t : Table) (w lens l₀ : List ℕ) → length (all_point_counters t) + 256 ≤ length l₀ → (n i at : ℕ) (l : List ℕ)
    → Written 0 (all_places t w (run_stretches lens)) l₀ at l (places_after t w lens i (n - i)) → i < n → transition_places t w lens i ≡ []
    → (at₁ : ℕ) (l₁ : List ℕ) → at₁ ≡ at + length (value_places t w i) → l₁ ≡ put at (value_places t w i) l
    → Written 0 (all_places t w (run_stretches lens)) l₀ at₁ l₁ (places_after t w lens (i + 1) (n - (i + 1)))
unmatched-turn t w lens l₀ room n i at l inv h none at₁ l₁ e₁ w₁ =
    subst (λ (xs : List ℕ). Written 0 (all_places t w (run_stretches lens)) l₀ at₁ l₁ (xs ++ places_after t w lens (i + 1) (n - (i + 1)))) none
    (values-turn t w lens l₀ room n i at l inv h at₁ l₁ e₁ w₁)
