-- The least value from a number up, range after range.
-- Assumes nothing.
use Rattle.std.proofs.Common.{◌≡◌, ℕ, zero, suc, ◌+◌, ◌-◌, ◌*◌, ◌/◌, ◌%◌, ◌^◌, ◌<◌, ◌≤◌, min, max, Bool, true, false, cond, leb, List, sym, refl, ap, ◌∙◌, ap₂, pow-suc, arith, pow_mono, rules, eq-eqb, ne_eqb, leb-false, leb-true}
use native.Mathlib.Nat.{sub-zero}
use Rattle.model.specs.Table.{Range, span, pattern}
use Rattle.model.specs.Values.{field_value}
use Rattle.model.specs.Format.{byte, u64, range_record}
use Rattle.model.specs.Ranges.{no_value, pattern_from, next_in_range, next_in}
use Rattle.model.specs.Raw.{rows, ranges_at}
use Rattle.model.proofs.NextValue.{pattern_ge, next_ge, next-below}
use Rattle.model.proofs.Lists.{none_left, one_left}
use Rattle.ranges.specs.Types.{value_at}

-- ---- patterns

-- how far up the next number can be
pub pattern-below : (n bits mask x : ℕ) → pattern_from n bits mask x + 2 ≤ x + 2 ^ (suc n)
unfolding pattern_from
pattern-below zero bits mask x = omega arith
pattern-below (suc n) bits mask x =
    let y = (x + mask % 2 - bits % 2) / 2 in
    omega (arith, pattern-below n (bits / 2) (mask / 2) y, pattern_ge n (bits / 2) (mask / 2) y, pow-suc 2 (suc n))

pub pattern-near : (n bits mask x r : ℕ) → n ≤ 32 → r ≡ pattern_from n bits mask x → r ≤ x + 8589934592
pattern-near n bits mask x r h e =
    let g : 2 ^ suc n ≤ 2 ^ 33 = pow_mono {j = 33} (omega arith) in
    omega (arith, pattern-below n bits mask x)

pub pattern-end : (n bits mask x r : ℕ) → n ≡ 0 → r ≡ x → r ≡ pattern_from n bits mask x
unfolding pattern_from
pattern-end zero bits mask x r e h = h
pattern-end (suc n) bits mask x r e h = absurd (omega arith)

pub pattern_half : (n bits mask x d half r : ℕ) → (n ≡ 0 → ⊥) → d ≡ x + mask % 2 - bits % 2 → half ≡ pattern_from (n - 1) (bits / 2) (mask / 2) (d / 2)
    → r ≡ max x (2 * half + bits % 2) → r ≡ pattern_from n bits mask x
unfolding pattern_from
pattern_half zero bits mask x d half r e ed eh h = absurd (e refl)
pattern_half (suc n) bits mask x d half r e ed eh h =
    h ∙ ap (λ (a : ℕ). max x (2 * a + bits % 2))
    (eh ∙ ap₂ (λ (m a : ℕ). pattern_from m (bits / 2) (mask / 2) (a / 2)) (let z : suc n - 1 ≡ n = omega arith in z) ed)

-- ---- one range

module _ (s : List ℕ) (at x k a b : ℕ) (ek : k ≡ byte s at) (ea : a ≡ u64 s (at + 1)) (eb : b ≡ u64 s (at + 9)) where
  pub next_span : (lo hi r : ℕ) → k ≡ 0 → lo ≡ value_at a → hi ≡ value_at b → r ≡ next_in_range (span lo hi) x → r ≡ next_in_range (range_record s at) x
  unfolding value_at
  next_span lo hi r z el eh h =
      h ∙ ap₂ (λ (lo hi : ℕ). next_in_range (span lo hi) x) (el ∙ ap field_value ea) (eh ∙ ap field_value eb)
      ∙ ap (λ (c : Bool). next_in_range (cond c (span (field_value (u64 s (at + 1))) (field_value (u64 s (at + 9)))) (pattern (u64 s (at + 1)) (u64 s (at + 9)))) x) (sym (eq-eqb (byte s at) 0 (sym ek ∙ z)))

  pub next_pattern : (r : ℕ) → (k ≡ 0 → ⊥) → r ≡ next_in_range (pattern a b) x → r ≡ next_in_range (range_record s at) x
  next_pattern r z h =
      h ∙ ap₂ (λ (a b : ℕ). next_in_range (pattern a b) x) ea eb
      ∙ ap (λ (c : Bool). next_in_range (cond c (span (field_value (u64 s (at + 1))) (field_value (u64 s (at + 9)))) (pattern (u64 s (at + 1)) (u64 s (at + 9)))) x) (sym (ne_eqb (byte s at) 0 (λ e. z (ek ∙ e))))

pub ruleset nexts = (rules, pattern-end, pattern_half, next_span, next_pattern)

-- ---- ranges in a row

-- from 2^33 up there is no value
pub next-least : (rs : List Range) (x from : ℕ) → from ≡ min x no_value → next_in rs x ≡ next_in rs from
next-least rs x from e = go (leb x no_value) refl
  where
    go : (b : Bool) → leb x no_value ≡ b → next_in rs x ≡ next_in rs from
    go true q = ap (next_in rs) (let z : x ≡ from = omega (arith, leb-true x no_value q) in z)
    go false q = omega (arith, leb-false x no_value q, next_ge rs x, next_ge rs from, next-below rs x, next-below rs from)

min_min : (a b c : ℕ) → min a (min b c) ≡ min (min a b) c
min_min a b c = omega arith

module _ (s : List ℕ) (n x : ℕ) where
  pub next_start : (start : ℕ) → next_in (ranges_at s start n) x ≡ min 8589934592 (next_in (ranges_at s start (n - 0)) x)
  next_start start = (let z : next_in (ranges_at s start n) x ≡ min 8589934592 (next_in (ranges_at s start n) x) = omega (arith, next-below (ranges_at s start n) x) in rw sub-zero z)

  module _ (i at whole best : ℕ) (inv : whole ≡ min best (next_in (ranges_at s at (n - i)) x)) where
    pub next-done : n ≤ i → best ≤ 8589934592 → best ≡ whole
    unfolding next_in rows
    next-done h k = let y : whole ≡ min best no_value = rw (none_left n i h) at inv in omega arith

    pub next-on : (v best' : ℕ) → i < n → v ≡ next_in_range (range_record s at) x → best' ≡ min best v → whole ≡ min best' (next_in (ranges_at s (at + 17) (n - (i + 1))) x)
    unfolding next_in rows
    next-on v best' h e g =
        let y : whole ≡ min best (min (next_in_range (range_record s at) x) (next_in (ranges_at s (at + 17) (n - (i + 1))) x)) = rw (one_left n i h) at inv in
        y ∙ ap (λ (a : ℕ). min best (min a (next_in (ranges_at s (at + 17) (n - (i + 1))) x))) (sym e)
        ∙ min_min best v (next_in (ranges_at s (at + 17) (n - (i + 1))) x) ∙ ap (λ (a : ℕ). min a (next_in (ranges_at s (at + 17) (n - (i + 1))) x)) (sym g)
