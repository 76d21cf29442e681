-- Laws for the auto bins of a point.
-- Assumes nothing.
use mathlib.Core.Path.{◌≡◌, sym, ap, ap₂, ◌∙◌}
use mathlib.Core.Bool.{Bool, true, false, ◌&&◌, ◌||◌}
use mathlib.Core.List.{List}
use Prim.Native.Nat.{ℕ, ◌+◌, ◌-◌, ◌^◌, ◌≤◌, ◌<◌, min}
use lib.Dec.{leb, eqb}
use borrow.Author.Rules.{rules}
use Rattle.model.specs.Table.{Point}
use Rattle.model.specs.Values.{lowest, highest}
use Rattle.model.specs.Counters.{auto_count}
use Rattle.model.specs.Format.{byte, u16, point_record}
use Rattle.model.proofs.Lists.{none_left, one_left}
use Rattle.ranges.specs.Types.{power_of, lowest_of}
use Rattle.ranges.proofs.RangeLaws.{low_typed}
use Rattle.values.specs.Counts.{autos_of}
use Rattle.values.specs.Points.{is_own, some_own}

module _ (s : List ℕ) (p : ℕ) (defaults : Bool) (size n at i : ℕ) (x : Bool) (inv : x ≡ some_own s p defaults size at (n - i)) where
  own_step : i < n → x ≡ (is_own s p defaults at || some_own s p defaults size (at + size) (n - (i + 1)))
  unfolding some_own
  own_step h = inv ∙ ap (some_own s p defaults size at) (one_left n i h)

  pub own_done : n ≤ i → false ≡ x
  unfolding some_own
  own_done h = sym (inv ∙ ap (some_own s p defaults size at) (none_left n i h))

  module _ (q k : ℕ) (y : Bool) (eq : q ≡ byte s at) (ek : k ≡ byte s (at + 1)) (ey : y ≡ (eqb k 0 || (defaults && leb 3 k))) (h : i < n) where
    test : (b : Bool) → (eqb q p && y) ≡ b → x ≡ (b || some_own s p defaults size (at + size) (n - (i + 1)))
    test b e = own_step h ∙ ap (◌|| some_own s p defaults size (at + size) (n - (i + 1))) (let z : is_own s p defaults at ≡ b = rw (← eq, ← ek, ← ey) e in z)

    pub own-found : (eqb q p && y) ≡ true → true ≡ x
    own-found e = sym (test true e)

    pub own_on : (eqb q p && y) ≡ false → x ≡ some_own s p defaults size (at + size) (n - (i + 1))
    own_on e = test false e

pub ruleset owns = (rules, own_done, own-found, own_on)

-- ---- the type of a point's record

power-is : (s : List ℕ) (point width all : ℕ) → width ≡ byte s point → all ≡ power_of width → all ≡ 2 ^ byte s point
unfolding power_of
power-is s point width all ew ea = ea ∙ ap power_of ew

pub auto-number : (s : List ℕ) (point width all most number : ℕ) → width ≡ byte s point → all ≡ power_of width → most ≡ u16 s (point + 9) → number ≡ min all most → number ≡ auto_count (point_record s point)
auto-number s point width all most number ew ea em en = en ∙ ap₂ min (power-is s point width all ew ea) em

module _ (s : List ℕ) (point width : ℕ) (signed : Bool) (low all number most : ℕ) (ew : width ≡ byte s point) (es : signed ≡ eqb (byte s (point + 1)) 1) (el : low ≡ lowest_of width signed) (ea : all ≡ power_of width)
    (em : most ≡ u16 s (point + 9)) (en : number ≡ min all most) where
  pub low_is : low ≡ lowest (point_record s point)
  low_is = low_typed s point width signed low ew es el

  pub high_is : low + all - 1 ≡ highest (point_record s point)
  high_is = ap₂ (λ (x y : ℕ). x + y - 1) low_is (power-is s point width all ew ea)

  pub number_is : number ≡ auto_count (point_record s point)
  number_is = auto-number s point width all most number ew ea em en

-- ---- how many auto bins

module _ (has : Bool) (p : Point) (n : ℕ) where
  pub no_autos : has ≡ false → 0 ≡ autos_of has p
  no_autos e = sym (ap (λ (b : Bool). autos_of b p) e)

  pub some_autos : has ≡ true → n ≡ auto_count p → n ≡ autos_of has p
  some_autos e en = en ∙ sym (ap (λ (b : Bool). autos_of b p) e)
