-- The quotient of two whole numbers that a float holds exactly is rounded once.
-- Assumes nothing.
use mathlib.Core.Path.{◌≡◌, sym, ◌∙◌}
use mathlib.Core.Bool.{false}
use Prim.Native.Nat.{ℕ, ◌*◌, ◌^◌, ◌≤◌, ◌<◌}
use native.Mathlib.Nat.{mul-one, mul_assoc, mul_comm, mul-pos, zero-mul}
use native.Mathlib.Omega.{arith}
use lib.Dec.{T, le→leb}
use borrow.Author.Tests.{ne_eqb}
use lib.IntN.{ℤ, pos}
use lib.Ieee.{Float, nan, inf, fin, Format, prec, up, down, round, div, of_int, in_float, binary64}
use lib.Ieee.Exact.{HasValue}
use lib.Ieee.Back.{round_whole}
use lib.Ieee.Fits.{down_pos, up_pos}
use lib.Ieee.Scale.{round_same}

-- from m * x ≡ a * e and n * y ≡ b * d
cross : (m x e n y d a b : ℕ) → m * x * 1 ≡ a * e → n * y * 1 ≡ b * d → m * x * d * b ≡ a * (n * y * e)
cross m x e n y d a b p q =
    let p' : m * x ≡ a * e = sym (mul-one (m * x)) ∙ p in
    let q' : n * y ≡ b * d = sym (mul-one (n * y)) ∙ q in
    rw (p', q', mul_assoc (a * e) d b, mul_comm d b, mul_assoc a e (b * d), mul_comm e (b * d))

nonzero : (n y d b : ℕ) → 0 < b → 0 < d → n * y * 1 ≡ b * d → n ≡ 0 → ⊥
nonzero n y d b h k q z =
    let e : b * d ≡ 0 = sym q ∙ rw (z, zero-mul y) in
    omega (arith, mul-pos h k)

div_is : (f : Format) (m : ℕ) (e : ℤ) (n : ℕ) (d : ℤ) → (n ≡ 0 → ⊥) → div f (fin false m e) (fin false n d) ≡ round f false (m * up e * down d) (n * up d * down e)
unfolding div
div_is f m e n d h = rw (ne_eqb n 0 h)

-- floats that hold a and b
div-at : (f : Format) (x y : Float) (a b : ℕ) → 0 < b → HasValue x false a 1 → HasValue y false b 1 → div f x y ≡ round f false a b
div-at f nan y a b h p q = absurd p
div-at f (inf s) y a b h p q = absurd p
div-at f (fin s m e) nan a b h p q = absurd q
div-at f (fin s m e) (inf t) a b h p q = absurd q
div-at f (fin s m e) (fin t n d) a b h p q =
    let nz : n ≡ 0 → ⊥ = nonzero n (up d) (down d) b h (down_pos d) q.1 in
    let den : 0 < n * up d * down e = mul-pos (mul-pos (positive n nz) (up_pos d)) (down_pos e) in
    rw (p.0, q.0)
    (div_is f m e n d nz
    ∙ round_same f false (m * up e * down d) (n * up d * down e) a b den h (cross m (up e) (down e) n (up d) (down d) a b p.1 q.1))
  where
    positive : (n : ℕ) → (n ≡ 0 → ⊥) → 0 < n
    positive n h = omega arith

pub div-whole : (f : Format) (a b : ℕ) → 0 < b → a ≤ 2 ^ prec f → b ≤ 2 ^ prec f → div f (of_int f (pos a)) (of_int f (pos b)) ≡ round f false a b
unfolding of_int
div-whole f a b h p q = div-at f (round f false a 1) (round f false b 1) a b h (round_whole f false a p) (round_whole f false b q)

pub in_float_lem : (n : ℕ) → n ≤ 2 ^ 53 → T (in_float binary64 (pos n))
unfolding in_float
in_float_lem n h = le→leb n (2 ^ 53) h
