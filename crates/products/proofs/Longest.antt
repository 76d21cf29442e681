-- The longest bin of a cross, and the room that its tokens need.
-- Assumes nothing.
use mathlib.Core.Path.{◌≡◌, ap, sym, ◌∙◌}
use mathlib.Core.List.{List}
use Prim.Native.Nat.{ℕ, zero, suc, ◌+◌, ◌*◌, ◌-◌, ◌/◌, ◌≤◌, ◌<◌, max}
use native.Mathlib.Nat.{mul-le-mul}
use native.Mathlib.Omega.{arith}
use Rattle.model.specs.Format.{byte}
use Rattle.model.proofs.Lists.{one_left}
use Rattle.products.specs.Expressions.{room_for}
use Rattle.products.specs.Marks.{longest, BinsLegal}
use Rattle.products.proofs.Parts.{room_less}

pub longest-none : (s : List ℕ) (b n : ℕ) → n ≡ 0 → longest s b n ≡ 0
unfolding longest
longest-none s b n e = ap (longest s b) e

-- the i-th of n bins stands at b and has m tokens
module _ (s : List ℕ) (b n i : ℕ) (h : i < n) (m : ℕ) (em : m ≡ byte s (b + 2)) where
  pub longest_turn : longest s b (n - i) ≡ max m (longest s (b + 3) (n - (i + 1)))
  unfolding longest
  longest_turn = ap (longest s b) (one_left n i h) ∙ ap (λ (y : ℕ). max y (longest s (b + 3) (n - (i + 1)))) (sym em)

  module _ (most : ℕ) (inside : longest s b (n - i) ≤ most) where
    pub bin-inside : m ≤ most
    bin-inside = omega (arith, longest_turn)

    pub rest-inside : longest s (b + 3) (n - (i + 1)) ≤ most
    rest-inside = omega (arith, longest_turn)

    -- what has room for the longest has room for this one
    pub bin-room : (total l : ℕ) → room_for most total ≤ l → room_for m total ≤ l
    bin-room total l k = omega (arith, room_less total m most bin-inside)

pub longest-few : (s : List ℕ) (c b k n : ℕ) → BinsLegal s c b k n → longest s b n ≤ 32
unfolding longest BinsLegal
longest-few s c b k zero legal = omega arith
longest-few s c b k (suc n) legal = omega (arith, legal.0, longest-few s c (b + 3) (k + 20 * byte s (b + 2)) n legal.2)

-- no bin of a cross with at most 1,024 products needs more
pub room_most : (m n : ℕ) → m ≤ 32 → n ≤ 1024 → room_for m n ≤ 17408
room_most m n h k = omega (arith, mul-le-mul (let z : m / 2 + 1 ≤ 17 = omega arith in z) k)
