-- A search over records in a row and over value bins in a row, and how many such bins there are. x is the answer from the loop's start; its invariant says
-- that it is the answer of what is left.
-- Assumes nothing.
use Rattle.std.proofs.Common.{◌≡◌, ℕ, ◌+◌, ◌-◌, ◌*◌, ◌<◌, ◌≤◌, Bool, true, false, ◌||◌, List, [], ◌∷◌, ◌++◌, sym, refl, ap, ◌∙◌, rules}
use mathlib.Core.Bool.{or_assoc}
use native.Mathlib.Nat.{sub-zero}
use Rattle.model.specs.Lists.{any}
use Rattle.model.specs.Table.{ValueBin}
use Rattle.model.specs.Format.{u16}
use Rattle.model.specs.Raw.{rows, bin_at, bins_at}
use Rattle.model.proofs.Lists.{none_left, one_left}

pub any_append : {A : Type 0} (f : A → Bool) (xs ys : List A) → any f (xs ++ ys) ≡ (any f xs || any f ys)
unfolding any
any_append f [] ys = refl
any_append f (x ∷ xs) ys = ap (f x ||◌) (any_append f xs ys) ∙ sym (or_assoc (f x) (any f xs) (any f ys))

or-first : (a b c : Bool) → a ≡ b → b ≡ true → true ≡ (a || c)
or-first a b c e h = sym (ap (◌|| c) (e ∙ h))

or_second : (a b c : Bool) → a ≡ b → b ≡ false → (a || c) ≡ c
or_second a b c e h = ap (◌|| c) (e ∙ h)

-- ---- records in a row

module _ {A : Type 0} (f : A → Bool) (says : ℕ → A) (size : ℕ) where
  pub rows_any_start : (at n : ℕ) → any f (rows says size at n) ≡ any f (rows says size at (n - 0))
  rows_any_start at n = ap (λ (m : ℕ). any f (rows says size at m)) (sym (sub-zero n))

  module _ (at n i : ℕ) (x : Bool) (inv : x ≡ any f (rows says size at (n - i))) where
    pub rows-any-done : n ≤ i → false ≡ x
    unfolding rows any
    rows-any-done h = sym (rw (none_left n i h) at inv)

    pub rows-any-found : (y : Bool) → i < n → y ≡ f (says at) → y ≡ true → true ≡ x
    unfolding rows any
    rows-any-found y h e z =
        let step : x ≡ (f (says at) || any f (rows says size (at + size) (n - (i + 1)))) = rw (one_left n i h) at inv in
        or-first (f (says at)) y (any f (rows says size (at + size) (n - (i + 1)))) (sym e) z ∙ sym step

    pub rows-any-on : (y : Bool) → i < n → y ≡ f (says at) → y ≡ false → x ≡ any f (rows says size (at + size) (n - (i + 1)))
    unfolding rows any
    rows-any-on y h e z =
        let step : x ≡ (f (says at) || any f (rows says size (at + size) (n - (i + 1)))) = rw (one_left n i h) at inv in
        step ∙ or_second (f (says at)) y (any f (rows says size (at + size) (n - (i + 1)))) (sym e) z

-- ---- value bins in a row

module _ (f : ValueBin → Bool) (s : List ℕ) where
  pub bins_any_start : (b r n : ℕ) → any f (bins_at s b r n) ≡ any f (bins_at s b r (n - 0))
  bins_any_start b r n = ap (λ (m : ℕ). any f (bins_at s b r m)) (sym (sub-zero n))

  module _ (b r n i : ℕ) (x : Bool) (inv : x ≡ any f (bins_at s b r (n - i))) where
    pub bins-any-done : n ≤ i → false ≡ x
    unfolding bins_at any
    bins-any-done h = sym (rw (none_left n i h) at inv)

    pub bins-any-found : (y : Bool) → i < n → y ≡ f (bin_at s b r) → y ≡ true → true ≡ x
    unfolding bins_at any
    bins-any-found y h e z =
        let step : x ≡ (f (bin_at s b r) || any f (bins_at s (b + 8) (r + 17 * u16 s (b + 6)) (n - (i + 1)))) = rw (one_left n i h) at inv in
        or-first (f (bin_at s b r)) y (any f (bins_at s (b + 8) (r + 17 * u16 s (b + 6)) (n - (i + 1)))) (sym e) z ∙ sym step

    pub bins-any-on : (y : Bool) (k : ℕ) → i < n → y ≡ f (bin_at s b r) → y ≡ false → k ≡ u16 s (b + 6) → x ≡ any f (bins_at s (b + 8) (r + 17 * k) (n - (i + 1)))
    unfolding bins_at any
    bins-any-on y k h e z q =
        let step : x ≡ (f (bin_at s b r) || any f (bins_at s (b + 8) (r + 17 * u16 s (b + 6)) (n - (i + 1)))) = rw (one_left n i h) at inv in
        step ∙ or_second (f (bin_at s b r)) y (any f (bins_at s (b + 8) (r + 17 * u16 s (b + 6)) (n - (i + 1)))) (sym e) z
        ∙ ap (λ (m : ℕ). any f (bins_at s (b + 8) (r + 17 * m) (n - (i + 1)))) (sym q)

pub ruleset anys = (rules, rows_any_start, rows-any-done, rows-any-found, rows-any-on, bins_any_start, bins-any-done, bins-any-found, bins-any-on)
