-- Laws of words as sets of lengths.
-- Assumes nothing.
use mathlib.Core.Path.{◌≡◌, refl, sym, ap, ap₂, ◌∙◌}
use mathlib.Core.Bool.{Bool, true, false, not, ◌&&◌, ◌||◌, and-true}
use Prim.Native.Nat.{ℕ, zero, suc, ◌+◌, ◌-◌, ◌*◌, ◌/◌, ◌%◌, ◌^◌, ◌<◌, max}
use native.Mathlib.Nat.{div-one, pow-suc, mul_comm, div-div-eq-div-mul, div-add-mod'}
use native.Mathlib.Omega.{arith}
use lib.Dec.{eqb}
use lib.Bits.{bit_or, or_step, or_zero_l, or_zero_r}
use borrow.Author.Tests.{eq-eqb, eqb-true}
use Rattle.model.specs.Lists.{up_from, any, bit}
use Rattle.model.proofs.Booleans.{and_left, and_right, bool_eq}
use Rattle.model.proofs.Lists.{any_same, any-shift}
use Rattle.model.proofs.RunBits.{odd-lt, max-lt, bit-zero}

bit-low : (x : ℕ) → bit 0 x ≡ eqb (x % 2) 1
bit-low x = ap (λ (y : ℕ). eqb (y % 2) 1) (div-one x)

bit-next : (k x : ℕ) → bit (suc k) x ≡ bit k (x / 2)
bit-next k x = ap (λ (y : ℕ). eqb (y % 2) 1) (ap (λ (m : ℕ). x / m) (pow-suc 2 k ∙ mul_comm (2 ^ k) 2) ∙ sym (div-div-eq-div-mul x 2 (2 ^ k)))

-- the lowest bits: one of x that is none of e
low_miss : (a b : ℕ) → a < 2 → b < 2 → (eqb a 1 && not (eqb b 1)) ≡ not (eqb (max a b) b)
low_miss zero zero h k = refl
low_miss zero (suc zero) h k = refl
low_miss (suc zero) zero h k = refl
low_miss (suc zero) (suc zero) h k = refl
low_miss (suc (suc a)) b h k = absurd (omega arith)
low_miss zero (suc (suc b)) h k = absurd (omega arith)
low_miss (suc zero) (suc (suc b)) h k = absurd (omega arith)

eqb-digits : (a b m r : ℕ) → m < 2 → r < 2 → eqb (a * 2 + m) (b * 2 + r) ≡ (eqb a b && eqb m r)
eqb-digits a b m r h k =
    bool_eq (eqb (a * 2 + m) (b * 2 + r)) (eqb a b && eqb m r)
    (λ e. let z : a * 2 + m ≡ b * 2 + r = eqb-true (a * 2 + m) (b * 2 + r) e in ap₂ ◌&&◌ (eq-eqb a b (omega arith)) (eq-eqb m r (omega arith)))
    (λ e. let x : a ≡ b = eqb-true a b (and_left (eqb a b) (eqb m r) e) in let y : m ≡ r = eqb-true m r (and_right (eqb a b) (eqb m r) e) in eq-eqb (a * 2 + m) (b * 2 + r) (omega arith))

either_miss : (x y : Bool) → (not y || not x) ≡ not (x && y)
either_miss true true = refl
either_miss true false = refl
either_miss false true = refl
either_miss false false = refl

-- some bit of x is no bit of e
miss : (n x e : ℕ) → x < 2 ^ n → any (λ k. bit k x && not (bit k e)) (up_from 0 n) ≡ not (eqb (bit_or x e) e)
unfolding up_from any
miss zero x e h =
    let z : x ≡ 0 = omega arith in
    sym (ap not (ap (λ (y : ℕ). eqb (bit_or y e) e) z ∙ eq-eqb (bit_or 0 e) e (or_zero_l e)))
miss (suc n) x e h =
    let half : x / 2 < 2 ^ n = omega (arith, div-add-mod' x 2, pow-suc 2 n) in
    ap₂ ◌||◌
    (ap₂ (λ (a b : Bool). a && not b) (bit-low x) (bit-low e) ∙ low_miss (x % 2) (e % 2) (odd-lt x) (odd-lt e))
    (any-shift (λ k. bit k x && not (bit k e)) 0 n
    ∙ any_same (λ k. bit (suc k) x && not (bit (suc k) e)) (λ k. bit k (x / 2) && not (bit k (e / 2))) 0 n (λ k a b. ap₂ (λ (c d : Bool). c && not d) (bit-next k x) (bit-next k e))
    ∙ miss n (x / 2) (e / 2) half)
    ∙ either_miss (eqb (bit_or (x / 2) (e / 2)) (e / 2)) (eqb (max (x % 2) (e % 2)) (e % 2))
    ∙ ap not (sym (ap₂ eqb (or_step x e) (sym (div-add-mod' e 2)) ∙ eqb-digits (bit_or (x / 2) (e / 2)) (e / 2) (max (x % 2) (e % 2)) (e % 2) (max-lt x e) (odd-lt e)))

-- the lengths 1 to 32: one of x that is not lost; one of x
pub some_left : (x e : ℕ) → x < 2 ^ 32 → any (λ l. bit (l - 1) x && not (bit (l - 1) e)) (up_from 1 32) ≡ not (eqb (bit_or x e) e)
some_left x e h = any-shift (λ l. bit (l - 1) x && not (bit (l - 1) e)) 0 32 ∙ any_same _ (λ k. bit k x && not (bit k e)) 0 32 (λ k a b. ap (λ (m : ℕ). bit m x && not (bit m e)) (let z : suc k - 1 ≡ k = omega arith in z)) ∙ miss 32 x e h

pub some-length : (x : ℕ) → x < 2 ^ 32 → any (λ l. bit (l - 1) x) (up_from 1 32) ≡ not (eqb x 0)
some-length x h =
    any_same (λ l. bit (l - 1) x) (λ l. bit (l - 1) x && not (bit (l - 1) 0)) 1 32 (λ l a b. sym (ap (λ (c : Bool). bit (l - 1) x && not c) (bit-zero (l - 1)) ∙ and-true (bit (l - 1) x)))
    ∙ some_left x 0 h ∙ ap (λ (y : ℕ). not (eqb y 0)) (or_zero_r x)
