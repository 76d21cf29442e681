-- How many values a range and ranges in a row have.
-- Assumes nothing.
use Rattle.std.proofs.Common.{◌≡◌, ℕ, suc, ◌+◌, ◌-◌, ◌<◌, ◌≤◌, min, Bool, cond, List, sym, ap, ◌∙◌, ap₂, arith, rules, eq-eqb, ne_eqb}
use native.Mathlib.Nat.{sub-zero}
use Rattle.model.specs.Lists.{sum_of}
use Rattle.model.specs.Table.{span, pattern}
use Rattle.model.specs.Values.{field_value}
use Rattle.model.specs.Format.{byte, u64, range_record}
use Rattle.model.specs.Ranges.{size, sizes}
use Rattle.model.specs.Raw.{rows, ranges_at}
use Rattle.model.proofs.Lists.{none_left, one_left}
use Rattle.ranges.specs.Types.{value_at}

-- ---- one range

module _ (s : List ℕ) (at k a b : ℕ) (ek : k ≡ byte s at) (ea : a ≡ u64 s (at + 1)) (eb : b ≡ u64 s (at + 9)) where
  at_size : Bool → ℕ
  at_size c = min (size (cond c (span (field_value (u64 s (at + 1))) (field_value (u64 s (at + 9)))) (pattern (u64 s (at + 1)) (u64 s (at + 9))))) 1152921504606846976

  pub size_span : (x y r : ℕ) → k ≡ 0 → x ≡ value_at a → y ≡ value_at b → r ≡ min (suc y - x) 1152921504606846976 → r ≡ min (size (range_record s at)) 1152921504606846976
  unfolding value_at at_size
  size_span x y r z ex ey h =
      h ∙ ap₂ (λ (x y : ℕ). min (suc y - x) 1152921504606846976) (ex ∙ ap field_value ea) (ey ∙ ap field_value eb) ∙ ap at_size (sym (eq-eqb (byte s at) 0 (sym ek ∙ z)))

  pub size_pattern : (k ≡ 0 → ⊥) → 0 ≡ min (size (range_record s at)) 1152921504606846976
  unfolding at_size
  size_pattern z = ap at_size (sym (ne_eqb (byte s at) 0 (λ e. z (ek ∙ e))))

pub ruleset range_size = (rules, size_span, size_pattern)

-- ---- ranges in a row

module _ (s : List ℕ) (n : ℕ) where
  pub sizes_start : (at : ℕ) → sizes (ranges_at s at n) ≡ 0 + sizes (ranges_at s at (n - 0))
  sizes_start at = (let z : sizes (ranges_at s at n) ≡ 0 + sizes (ranges_at s at n) = omega arith in rw sub-zero z)

  module _ (at i whole sum : ℕ) (inv : whole ≡ sum + sizes (ranges_at s at (n - i))) where
    pub sizes-done : n ≤ i → sum ≡ whole
    unfolding sizes sum_of rows
    sizes-done h = let y : whole ≡ sum + 0 = rw (none_left n i h) at inv in omega arith

    sizes_step : i < n → whole ≡ sum + (size (range_record s at) + sizes (ranges_at s (at + 17) (n - (i + 1))))
    unfolding sizes sum_of rows
    sizes_step h = inv ∙ ap (λ (m : ℕ). sum + sizes (ranges_at s at m)) (one_left n i h)

    pub sizes-room : (m : ℕ) → i < n → whole ≤ 1152921504606846976 → m ≡ min (size (range_record s at)) 1152921504606846976 → sum + m ≤ 1152921504606846976
    sizes-room m h g e = omega (arith, sizes_step h)

    pub sizes-on : (m : ℕ) → i < n → whole ≤ 1152921504606846976 → m ≡ min (size (range_record s at)) 1152921504606846976 → whole ≡ sum + m + sizes (ranges_at s (at + 17) (n - (i + 1)))
    sizes-on m h g e = omega (arith, sizes_step h)
