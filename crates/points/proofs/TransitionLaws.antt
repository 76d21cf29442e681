-- Laws for the code over transition bins.
-- Assumes nothing.
use mathlib.Core.Path.{◌≡◌, refl, sym, ap, ap₂, ◌∙◌}
use mathlib.Core.Bool.{Bool, true, false, not, ◌&&◌, ◌||◌, cond}
use mathlib.Core.List.{List, [], ◌∷◌, ◌++◌}
use Prim.Native.Nat.{ℕ, zero, suc, ◌+◌, ◌-◌, ◌*◌, ◌≤◌, ◌<◌}
use native.Mathlib.Omega.{arith}
use lib.Dec.{eqb}
use lib.Bits.{bit_or}
use lib.ListN.{get_or}
use borrow.Author.Tests.{eq-eqb, ne_eqb}
use Rattle.model.specs.Lists.{as_bit}
use Rattle.model.specs.Sampling.{guard_true}
use Rattle.model.specs.Format.{byte, kind_from, guard_from}
use Rattle.model.proofs.Booleans.{false-true}
use Rattle.model.proofs.Lists.{one_left, none_left}
use Rattle.points.specs.Transitions.{lost_with, lost_lengths, flags_by, flags_of, flags_from}

module _ (s lens : List ℕ) (p b n i : ℕ) where
  pub lost_turn : (before r : ℕ) → i < n → r ≡ lost_with s p (b + 4 * i) before (get_or lens i 0) → lost_lengths s lens p b (i + 1) (n - (i + 1)) r ≡ lost_lengths s lens p b i (n - i) before
  unfolding lost_lengths
  lost_turn before r h e = ap (lost_lengths s lens p b (i + 1) (n - (i + 1))) e ∙ sym (ap (λ (m : ℕ). lost_lengths s lens p b i m before) (one_left n i h))

  pub lost_end : (before : ℕ) → n ≤ i → lost_lengths s lens p b i (n - i) before ≡ before
  unfolding lost_lengths
  lost_end before h = ap (λ (m : ℕ). lost_lengths s lens p b i m before) (none_left n i h)

-- ---- which bins have a counter

pub neither : (k : ℕ) (y : Bool) → y ≡ (eqb k 0 || eqb k 2) → y ≡ false → (not (eqb k 0) && not (eqb k 2)) ≡ true
neither k y e h = go (eqb k 0) (eqb k 2) (sym e ∙ h)
  where
    go : (a b : Bool) → (a || b) ≡ false → (not a && not b) ≡ true
    go true b h = absurd (false-true (sym h))
    go false true h = absurd (false-true (sym h))
    go false false h = refl

pub one-of : (k : ℕ) (y : Bool) → y ≡ (eqb k 0 || eqb k 2) → y ≡ true → (not (eqb k 0) && not (eqb k 2)) ≡ false
one-of k y e h = go (eqb k 0) (eqb k 2) (sym e ∙ h)
  where
    go : (a b : Bool) → (a || b) ≡ true → (not a && not b) ≡ false
    go true b h = refl
    go false true h = refl
    go false false h = absurd (false-true h)

-- ---- one bin

module _ (s w : List ℕ) (p : ℕ) (skip : Bool) (lost at x q : ℕ) (eq : q ≡ byte s at) where
  pub other_point : (q ≡ p → ⊥) → flags_of s w p skip lost at x ≡ []
  unfolding flags_of
  other_point h = rw (ne_eqb (byte s at) p (λ e. h (eq ∙ e)))

  module _ (same : q ≡ p) (k : ℕ) (ek : k ≡ byte s (at + 1)) where
    this-point : flags_of s w p skip lost at x ≡ flags_by (kind_from k) (guard_true w (guard_from (byte s (at + 2))) && not skip) lost x
    unfolding flags_of
    this-point = rw (eq-eqb (byte s at) p (sym eq ∙ same), ek)

    pub no-counter : (not (eqb k 0) && not (eqb k 2)) ≡ true → flags_of s w p skip lost at x ≡ []
    no-counter e = this-point ∙ go k e
      where
        go : (k : ℕ) → (not (eqb k 0) && not (eqb k 2)) ≡ true → flags_by (kind_from k) (guard_true w (guard_from (byte s (at + 2))) && not skip) lost x ≡ []
        go zero e = absurd (false-true e)
        go (suc zero) e = refl
        go (suc (suc zero)) e = absurd (false-true e)
        go (suc (suc (suc k))) e = refl

    pub one-counter : (g : ℕ) (y h : Bool) → (not (eqb k 0) && not (eqb k 2)) ≡ false → g ≡ byte s (at + 2) → y ≡ guard_true w (guard_from g)
        → h ≡ cond (eqb k 0) (not (eqb (bit_or x lost) lost)) (not (eqb x 0)) → flags_of s w p skip lost at x ≡ as_bit ((y && not skip) && h) ∷ []
    one-counter g y h e eg ey eh =
        this-point ∙ go k e
        ∙ ap₂ (λ (c d : Bool). as_bit ((c && not skip) && d) ∷ []) (ap (λ (z : ℕ). guard_true w (guard_from z)) (sym eg) ∙ sym ey) (sym eh)
      where
        go : (k : ℕ) → (not (eqb k 0) && not (eqb k 2)) ≡ false
            → flags_by (kind_from k) (guard_true w (guard_from (byte s (at + 2))) && not skip) lost x
            ≡ as_bit ((guard_true w (guard_from (byte s (at + 2))) && not skip) && cond (eqb k 0) (not (eqb (bit_or x lost) lost)) (not (eqb x 0))) ∷ []
        go zero e = refl
        go (suc zero) e = absurd (false-true (sym e))
        go (suc (suc zero)) e = refl
        go (suc (suc (suc k))) e = absurd (false-true (sym (sym (ap₂ (λ (c d : Bool). not c && not d) (ne_eqb (suc (suc (suc k))) 0 (λ z. omega arith)) (ne_eqb (suc (suc (suc k))) 2 (λ z. omega arith))) ∙ e)))

-- ---- the loop over bins

module _ (s w lens : List ℕ) (p : ℕ) (skip : Bool) (lost b n i : ℕ) where
  pub bins_turn : i < n → flags_from s w lens p skip lost b i (n - i) ≡ flags_of s w p skip lost (b + 4 * i) (get_or lens i 0) ++ flags_from s w lens p skip lost b (i + 1) (n - (i + 1))
  unfolding flags_from
  bins_turn h = ap (flags_from s w lens p skip lost b i) (one_left n i h)

  pub bins_end : n ≤ i → flags_from s w lens p skip lost b i (n - i) ≡ []
  unfolding flags_from
  bins_end h = ap (flags_from s w lens p skip lost b i) (none_left n i h)
