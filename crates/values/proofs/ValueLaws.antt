-- Values as integers and as numbers.
-- Assumes nothing.
use mathlib.Core.Path.{◌≡◌, ap}
use mathlib.Core.Bool.{Bool, true, false}
use mathlib.Core.Logic.{⊎_elim, ◌⊎◌, inl, inr}
use Prim.Native.Nat.{ℕ, zero, suc, ◌+◌, ◌-◌, ◌^◌, ◌≤◌, ◌<◌}
use native.Mathlib.Decide.{dec_le}
use native.Mathlib.Omega.{arith}
use lib.IntN.{ℤ, pos, negsuc, ◌-ℤ◌, ◌+ℤ◌}
use lib.Pow.{pow_mono}
use mir.Syntax.{w64}
use mir.Val.{SFits}
use borrow.Author.Tests.{lt-ltb, le-ltb, le-leb, lt-leb}
use Rattle.model.specs.Values.{read_value}
use Rattle.model.proofs.TableExact.{pow_half}
use Rattle.ranges.specs.Types.{typed}
use Rattle.values.specs.Value.{value_of, key, InKey}

pub sub_neg : (a b : ℕ) → a < b → pos a -ℤ pos b ≡ negsuc (b - suc a)
sub_neg a zero h = absurd (omega arith)
sub_neg a (suc n) h = rw (lt-ltb a (suc n) h)

le-or-lt : (x y : ℕ) → (x ≤ y) ⊎ (y < x)
le-or-lt x y = elim (dec_le x y) [ yes h ↦ inl h | no h ↦ inr (omega arith) ]

-- a value of a width from 1 to 32 has a key
pub value_in : (s : Bool) (w n : ℕ) → 1 ≤ w → w ≤ 32 → n < 2 ^ w → InKey (value_of s w n)
value_in true w n h₁ h₂ h = ⊎_elim (λ l. rw (le-ltb n (2 ^ (w - 1)) l, sub_neg n (2 ^ w) h) (omega (arith, pow_half w h₁, pow_mono {i = w} {j = 32} h₂)))
    (λ l. rw (lt-ltb n (2 ^ (w - 1)) l) (omega (arith, pow_mono {i = w} {j = 32} h₂))) (le-or-lt (2 ^ (w - 1)) n)
value_in false w n h₁ h₂ h = omega (arith, pow_mono {i = w} {j = 32} h₂)

pub keyed : (z : ℤ) → InKey z → z +ℤ pos 2147483648 ≡ pos (key z)
keyed (pos n) h = let e : n + 2147483648 ≡ 2147483648 + n = omega arith in ap pos e
keyed (negsuc n) h = let e : 2147483648 - suc n ≡ 2147483647 - n = omega arith in rw (le-ltb 2147483648 (suc n) h) (ap pos e)

pub key-lt : (z : ℤ) → InKey z → key z < 2 ^ 33
key-lt (pos n) h = omega arith
key-lt (negsuc n) h = omega arith

pub in-fits : (z : ℤ) → InKey z → SFits w64 z
in-fits (pos n) h = record { sfits = omega arith }
in-fits (negsuc n) h = record { sfits = omega arith }

-- the number is the one that represents the reading
pub key-read : (s : Bool) (w n : ℕ) → 1 ≤ w → w ≤ 32 → n < 2 ^ w → key (value_of s w n) ≡ read_value (typed w s) n
key-read true w n h₁ h₂ h =
    ⊎_elim
    (λ l. rw (le-ltb n (2 ^ (w - 1)) l, le-leb (2 ^ (w - 1)) n l, sub_neg n (2 ^ w) h) (omega (arith, pow_half w h₁, pow_mono {i = w} {j = 32} h₂)))
    (λ l. rw (lt-ltb n (2 ^ (w - 1)) l, lt-leb (2 ^ (w - 1)) n l) (omega arith)) (le-or-lt (2 ^ (w - 1)) n)
key-read false w n h₁ h₂ h = omega arith
