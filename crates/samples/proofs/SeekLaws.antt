-- Laws of the search for a place among hits.
-- Assumes nothing.
use mathlib.Core.Path.{◌≡◌, refl, sym, ap, ◌∙◌}
use mathlib.Core.Bool.{Bool, true, false, ◌||◌}
use mathlib.Core.List.{List, [], ◌∷◌, map}
use Prim.Native.Nat.{ℕ, zero, suc, ◌+◌, ◌≤◌, ◌<◌}
use native.Mathlib.Omega.{arith}
use lib.Dec.{eqb}
use lib.ListN.{length, drop, get_or, drop_of_length-le}
use borrow.Author.Tests.{ne_eqb, eq-eqb, eqb-true}
use Rattle.model.specs.Lists.{one_of, as_bit}
use Rattle.model.proofs.Booleans.{bool_eq}
use Rattle.model.proofs.Lists.{head_tail}
use Rattle.places.specs.Places.{ascending}
use Rattle.places.proofs.PlaceLaws.{ascending-head, ascending_tail, ascending-from, one_of-below}
use Rattle.samples.specs.Listed.{hit_bits}

one_of_lem : (x y : ℕ) (ys : List ℕ) → one_of x (y ∷ ys) ≡ (eqb x y || one_of x ys)
unfolding one_of
one_of_lem x y ys = refl

none_of : (x : ℕ) → one_of x [] ≡ false
unfolding one_of
none_of x = refl

eqb_turned : (x y : ℕ) → eqb x y ≡ eqb y x
eqb_turned x y = bool_eq (eqb x y) (eqb y x) (λ t. eq-eqb y x (sym (eqb-true x y t))) (λ t. eq-eqb x y (sym (eqb-true y x t)))

-- a hit below k does not matter from k on
pub pass_one : (hits : List ℕ) (k j : ℕ) → j < length hits → get_or hits j 0 < k → (x : ℕ) → k ≤ x → one_of x (drop (j + 1) hits) ≡ one_of x (drop j hits)
pass_one hits k j h below x g =
    sym (ap (one_of x) (head_tail hits j 0 h) ∙ one_of_lem x (get_or hits j 0) (drop (j + 1) hits) ∙ ap (◌|| one_of x (drop (j + 1) hits)) (ne_eqb x (get_or hits j 0) (λ (e : x ≡ get_or hits j 0). omega arith)))

-- a part of an ascending list ascends
pub ascending-drop : (j : ℕ) (l : List ℕ) → ascending 0 l ≡ true → ascending 0 (drop j l) ≡ true
ascending-drop zero l a = a
ascending-drop (suc j) [] a = a
ascending-drop (suc j) (x ∷ xs) a = ascending-drop j xs (ascending-from (suc x) 0 xs (omega arith) (ascending_tail 0 x xs a))

-- the first hit that is not below k tells
pub told : (hits : List ℕ) (k j : ℕ) → j < length hits → ascending 0 hits ≡ true → k ≤ get_or hits j 0 → eqb (get_or hits j 0) k ≡ one_of k (drop j hits)
told hits k j h a g =
    let y = get_or hits j 0 in
    let rest : ascending 0 (y ∷ drop (j + 1) hits) ≡ true = ap (ascending 0) (sym (head_tail hits j 0 h)) ∙ ascending-drop j hits a in
    let none : one_of k (drop (j + 1) hits) ≡ false = one_of-below k (suc y) (drop (j + 1) hits) (omega arith) (ascending_tail 0 y (drop (j + 1) hits) rest) in
    sym (ap (one_of k) (head_tail hits j 0 h) ∙ one_of_lem k y (drop (j + 1) hits) ∙ ap (eqb k y ||◌) none ∙ or-none (eqb k y) ∙ eqb_turned k y)
  where
    or-none : (b : Bool) → (b || false) ≡ b
    or-none true = refl
    or-none false = refl

pub none_left : (hits : List ℕ) (k j : ℕ) → length hits ≤ j → false ≡ one_of k (drop j hits)
none_left hits k j h = sym (ap (one_of k) (drop_of_length-le hits h) ∙ none_of k)

-- ---- one place after the other

pub bits-turn : (places hits : List ℕ) (i : ℕ) → i < length places → hit_bits (drop i places) hits ≡ as_bit (one_of (get_or places i 0) hits) ∷ hit_bits (drop (i + 1) places) hits
unfolding hit_bits
bits-turn places hits i h = ap (map (λ k. as_bit (one_of k hits))) (head_tail places i 0 h)

pub bits-end : (places hits : List ℕ) (i : ℕ) → length places ≤ i → hit_bits (drop i places) hits ≡ []
unfolding hit_bits
bits-end places hits i h = ap (map (λ k. as_bit (one_of k hits))) (drop_of_length-le places h)

-- the next place is above this one
pub next-above : (places : List ℕ) (i : ℕ) → i + 1 < length places → ascending 0 places ≡ true → get_or places i 0 ≤ get_or places (i + 1) 0
next-above places i h a =
    let y = get_or places i 0 in
    let rest : ascending 0 (y ∷ drop (i + 1) places) ≡ true = ap (ascending 0) (sym (head_tail places i 0 (omega arith))) ∙ ascending-drop i places a in
    let tail : ascending (suc y) (get_or places (i + 1) 0 ∷ drop (i + 1 + 1) places) ≡ true = ap (ascending (suc y)) (sym (head_tail places (i + 1) 0 h)) ∙ ascending_tail 0 y (drop (i + 1) places) rest in
    let g = ascending-head (suc y) (get_or places (i + 1) 0) (drop (i + 1 + 1) places) tail in
    omega arith
