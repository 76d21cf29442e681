-- Laws for code over ranges and bins that are read from bytes, in the form in which `search` applies them.
-- Assumes nothing.
use mathlib.Core.Path.{◌≡◌, ap, ap₂, ◌∙◌}
use mathlib.Core.Bool.{Bool, true, not, ◌&&◌, ◌||◌}
use mathlib.Core.List.{List, [], ◌∷◌}
use Prim.Native.Nat.{ℕ, ◌+◌, ◌-◌, ◌*◌, ◌/◌, ◌%◌, ◌≤◌, ◌<◌}
use native.Mathlib.Omega.{arith}
use borrow.Author.Rules.{rules}
use borrow.Author.Tests.{eq-eqb, ne_eqb}
use Rattle.model.specs.Lists.{sum_of, bit}
use Rattle.model.specs.Values.{in_range, in_ranges}
use Rattle.model.specs.Sampling.{guard_word, guard_true}
use Rattle.model.specs.Format.{u16, range_record, guard_from}
use Rattle.model.specs.Ranges.{size, sizes}
use Rattle.model.specs.Raw.{rows, ranges_at, bin_at, bins_at}
use Rattle.model.proofs.Lists.{none_left, one_left}

-- ---- fields

pub guard_none : (w : List ℕ) (g : ℕ) → g ≡ 255 → true ≡ guard_true w (guard_from g)
unfolding guard_true
guard_none w g e = rw (eq-eqb g 255 e)

pub guard-some : (w : List ℕ) (g x y : ℕ) (a b : Bool) → (g ≡ 255 → ⊥) → x ≡ guard_word w (g / 32) → y ≡ guard_word w (2 + g / 32)
    → a ≡ bit (g % 32) x → b ≡ bit (g % 32) y → (a && not b) ≡ guard_true w (guard_from g)
unfolding guard_true
guard-some w g x y a b e p q ea eb = rw (ne_eqb g 255 e, ea, eb, p, q)

pub ruleset guards = (rules, guard_none, guard-some)

-- ---- ranges in a row

module _ (s : List ℕ) (at v : ℕ) where
  pub ranges_start : (n : ℕ) → in_ranges (ranges_at s at n) v ≡ in_ranges (ranges_at s (at + 17 * 0) (n - 0)) v
  ranges_start n = ap₂ (λ (a m : ℕ). in_ranges (ranges_at s a m) v) (let z : at ≡ at + 17 * 0 = omega arith in z) (let z : n ≡ n - 0 = omega arith in z)

  pub ranges_step : (n i : ℕ) → i < n → in_ranges (ranges_at s (at + 17 * i) (n - i)) v ≡ in_range (range_record s (at + 17 * i)) v || in_ranges (ranges_at s (at + 17 * (i + 1)) (n - (i + 1))) v
  unfolding rows in_ranges
  ranges_step n i h =
      ap (λ (m : ℕ). in_ranges (ranges_at s (at + 17 * i) m) v) (one_left n i h)
      ∙ ap (λ (a : ℕ). in_range (range_record s (at + 17 * i)) v || in_ranges (ranges_at s a (n - (i + 1))) v) (let z : at + 17 * i + 17 ≡ at + 17 * (i + 1) = omega arith in z)

-- ---- bins in a row

module _ (s : List ℕ) (a : ℕ) where
  pub bins_start : (r n : ℕ) → bins_at s a r n ≡ bins_at s (a + 8 * 0) r (n - 0)
  bins_start r n = ap₂ (λ (b m : ℕ). bins_at s b r m) (let z : a ≡ a + 8 * 0 = omega arith in z) (let z : n ≡ n - 0 = omega arith in z)

  pub bins_step : (r n i : ℕ) → i < n → bins_at s (a + 8 * i) r (n - i) ≡ bin_at s (a + 8 * i) r ∷ bins_at s (a + 8 * (i + 1)) (r + 17 * u16 s (a + 8 * i + 6)) (n - (i + 1))
  unfolding bins_at
  bins_step r n i h =
      ap (λ (m : ℕ). bins_at s (a + 8 * i) r m) (one_left n i h)
      ∙ ap (λ (b : ℕ). bin_at s (a + 8 * i) r ∷ bins_at s b (r + 17 * u16 s (a + 8 * i + 6)) (n - (i + 1))) (let z : a + 8 * i + 8 ≡ a + 8 * (i + 1) = omega arith in z)

  pub bins_end : (r n i : ℕ) → n ≤ i → bins_at s (a + 8 * i) r (n - i) ≡ []
  unfolding bins_at
  bins_end r n i h = ap (λ (m : ℕ). bins_at s (a + 8 * i) r m) (none_left n i h)

-- ---- the sizes of ranges in a row

module _ (s : List ℕ) (at : ℕ) where
  pub sizes_step : (n i : ℕ) → i < n → sizes (ranges_at s (at + 17 * i) (n - i)) ≡ size (range_record s (at + 17 * i)) + sizes (ranges_at s (at + 17 * (i + 1)) (n - (i + 1)))
  unfolding rows sizes sum_of
  sizes_step n i h =
      ap (λ (m : ℕ). sizes (ranges_at s (at + 17 * i) m)) (one_left n i h)
      ∙ ap (λ (a : ℕ). size (range_record s (at + 17 * i)) + sizes (ranges_at s a (n - (i + 1)))) (let z : at + 17 * i + 17 ≡ at + 17 * (i + 1) = omega arith in z)

  pub row_start : (n : ℕ) → ranges_at s (at + 17 * 0) (n - 0) ≡ ranges_at s at n
  row_start n = ap₂ (ranges_at s) (let z : at + 17 * 0 ≡ at = omega arith in z) (let z : n - 0 ≡ n = omega arith in z)

  pub row_end : (n i : ℕ) → n ≤ i → ranges_at s (at + 17 * i) (n - i) ≡ []
  unfolding rows
  row_end n i h = ap (ranges_at s (at + 17 * i)) (none_left n i h)

  pub row_step : (n i : ℕ) → i < n → ranges_at s (at + 17 * i) (n - i) ≡ range_record s (at + 17 * i) ∷ ranges_at s (at + 17 * (i + 1)) (n - (i + 1))
  unfolding rows
  row_step n i h =
      ap (ranges_at s (at + 17 * i)) (one_left n i h)
      ∙ ap (λ (a : ℕ). range_record s (at + 17 * i) ∷ ranges_at s a (n - (i + 1))) (let z : at + 17 * i + 17 ≡ at + 17 * (i + 1) = omega arith in z)
