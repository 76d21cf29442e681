-- Membership in ranges.
-- Assumes nothing.
use Rattle.std.proofs.Common.{◌≡◌, ℕ, ◌+◌, ◌-◌, ◌&&◌, ◌||◌, eqb, leb, List, [], ◌∷◌, sym, refl, ap, ◌∙◌, rules, eq-eqb, ne_eqb}
use lib.Bits.{bit_and}
use Rattle.model.specs.Lists.{any}
use Rattle.model.specs.Table.{Range}
use Rattle.model.specs.Values.{bias, in_range, in_ranges}
use Rattle.model.specs.Format.{byte, u64, range_record}
use Rattle.ranges.specs.Types.{value_at}
use Rattle.ranges.specs.Taken.{holding}

-- ---- one range

module _ (s : List ℕ) (at v k a b : ℕ) (ek : k ≡ byte s at) (ea : a ≡ u64 s (at + 1)) (eb : b ≡ u64 s (at + 9)) where
  pub is_span : (lo hi : ℕ) → k ≡ 0 → lo ≡ value_at a → hi ≡ value_at b → (leb lo v && leb v hi) ≡ in_range (range_record s at) v
  unfolding value_at
  is_span lo hi z p q = rw (eq-eqb (byte s at) 0 (sym ek ∙ z), p, q, ea, eb)

  pub is_pattern : (u : ℕ) → (k ≡ 0 → ⊥) → u ≡ v - bias → eqb (bit_and u b) a ≡ in_range (range_record s at) v
  is_pattern u z y = rw (ne_eqb (byte s at) 0 (λ h. z (ek ∙ h)), ea, eb, y)

pub ruleset range = (rules, is_span, is_pattern)

-- ---- ranges in a row

pub in-any : (rs : List Range) (v : ℕ) → in_ranges rs v ≡ any (holding v) rs
unfolding in_ranges any
in-any [] v = refl
in-any (r ∷ rs) v = ap (in_range r v ||◌) (in-any rs v)
