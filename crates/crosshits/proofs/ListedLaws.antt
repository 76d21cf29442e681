-- The marks and places of listed products.
-- Assumes nothing.
use mathlib.Core.Path.{◌≡◌, refl, sym, ap, ◌∙◌}
use mathlib.Core.Bool.{Bool, true, false, cond}
use mathlib.Core.List.{List, [], ◌∷◌, ◌++◌, map}
use Prim.Native.Nat.{ℕ, suc, ◌+◌, ◌≤◌, ◌<◌}
use native.Mathlib.Omega.{arith}
use lib.Dec.{eqb}
use lib.Bits.{bit_or, or_zero_l, or_zero_r}
use lib.ListN.{length, get_or, drop, length-append, drop_of_length-le}
use Rattle.model.specs.Lists.{up_from, as_bit, or_all, pair_up}
use Rattle.model.proofs.Lists.{head_tail}
use Rattle.model.proofs.RunBits.{or_assoc}
use Rattle.places.specs.Places.{place_if, places_from, is_set}
use Rattle.places.proofs.PlaceLaws.{one_place}
use Rattle.crosses.specs.Flags.{own_mark, own_marks, product_flag, product_flags}
use Rattle.products.specs.Marks.{Below}
use Rattle.crosshits.specs.Listed.{list_marks, own_places}

pub below : (n w : ℕ) (xs : List ℕ) → Below n w xs → (i : ℕ) → i < n → get_or xs i 0 < w
unfolding Below
below n w xs h i k = h i k

-- ---- one product after the other

module _ (mask : ℕ) (a : List ℕ) (start : ℕ) (xs : List ℕ) where
  pub marks_turn : (i m own : ℕ) → i < length xs → m ≡ own_mark mask 1 (get_or a (start + get_or xs i 0) 0)
      → bit_or (bit_or own m) (list_marks mask a start (drop (i + 1) xs)) ≡ bit_or own (list_marks mask a start (drop i xs))
  unfolding list_marks or_all
  marks_turn i m own h em =
      or_assoc own m (list_marks mask a start (drop (i + 1) xs))
      ∙ ap (λ (z : ℕ). bit_or own (bit_or z (list_marks mask a start (drop (i + 1) xs)))) em
      ∙ ap (λ (l : List ℕ). bit_or own (list_marks mask a start l)) (sym (head_tail xs i 0 h))

  pub marks_end : (i own : ℕ) → length xs ≤ i → bit_or own (list_marks mask a start (drop i xs)) ≡ own
  unfolding list_marks or_all
  marks_end i own h = ap (λ (l : List ℕ). bit_or own (list_marks mask a start l)) (drop_of_length-le xs h) ∙ or_zero_r own

module _ (a : List ℕ) (start first : ℕ) (xs : List ℕ) where
  pub own_turn : (i m : ℕ) → i < length xs → m ≡ get_or a (start + get_or xs i 0) 0
      → own_places a start first (drop i xs) ≡ place_if (eqb m 0) (first + get_or xs i 0) ++ own_places a start first (drop (i + 1) xs)
  unfolding own_places
  own_turn i m h em =
      ap (own_places a start first) (head_tail xs i 0 h)
      ∙ ap (λ (z : ℕ). place_if (eqb z 0) (first + get_or xs i 0) ++ own_places a start first (drop (i + 1) xs)) (sym em)

  pub own_end : (i : ℕ) → length xs ≤ i → own_places a start first (drop i xs) ≡ []
  unfolding own_places
  own_end i h = ap (own_places a start first) (drop_of_length-le xs h)

pub own-few : (a : List ℕ) (start first : ℕ) (xs : List ℕ) → length (own_places a start first xs) ≤ length xs
unfolding own_places
own-few a start first [] = omega arith
own-few a start first (x ∷ xs) =
    let b = eqb (get_or a (start + x) 0) 0 in
    omega (arith, length-append (place_if b (first + x)) (own_places a start first xs), one_place b (first + x), own-few a start first xs)

-- ---- products that are not listed add nothing

module _ {A : Type 0} (g : A → Bool) (a : List ℕ) (start : ℕ) where
  -- the marks of n products from product i on
  abbrev pub marks_at : ℕ → ℕ → List ℕ
  marks_at i n = map (λ k. get_or a (start + k) 0) (up_from i n)

  abbrev pub flags_of : List A → List ℕ
  flags_of xs = map (λ x. as_bit (g x)) xs

  pub marks_listed : (mask n : ℕ) (xs : List A) → list_marks mask a start (places_from g n xs) ≡ own_marks mask (flags_of xs) (marks_at n (length xs))
  unfolding list_marks own_marks or_all places_from up_from pair_up
  marks_listed mask n [] = refl
  marks_listed mask n (x ∷ xs) = go (g x) (marks_listed mask (suc n) xs)
    where
      go : (b : Bool) → list_marks mask a start (places_from g (suc n) xs) ≡ own_marks mask (flags_of xs) (marks_at (suc n) (length xs))
          → list_marks mask a start (cond b (n ∷ places_from g (suc n) xs) (places_from g (suc n) xs)) ≡ bit_or (own_mark mask (as_bit b) (get_or a (start + n) 0)) (own_marks mask (flags_of xs) (marks_at (suc n) (length xs)))
      go true h = ap (bit_or (own_mark mask 1 (get_or a (start + n) 0))) h
      go false h = h ∙ sym (or_zero_l (own_marks mask (flags_of xs) (marks_at (suc n) (length xs))))

  pub own_listed_lem : (first n : ℕ) (xs : List A) → own_places a start first (places_from g n xs) ≡ places_from is_set (first + n) (product_flags true (flags_of xs) (marks_at n (length xs)))
  unfolding own_places product_flags places_from up_from pair_up
  own_listed_lem first n [] = refl
  own_listed_lem first n (x ∷ xs) =
      let e : first + suc n ≡ suc (first + n) = omega arith in
      go (g x) (own_listed_lem first (suc n) xs ∙ ap (λ (k : ℕ). places_from is_set k (product_flags true (flags_of xs) (marks_at (suc n) (length xs)))) e)
    where
      rest : List ℕ
      rest = places_from is_set (suc (first + n)) (product_flags true (flags_of xs) (marks_at (suc n) (length xs)))

      one : (z : Bool) → own_places a start first (places_from g (suc n) xs) ≡ rest → place_if z (first + n) ++ own_places a start first (places_from g (suc n) xs) ≡ cond (is_set (as_bit z)) ((first + n) ∷ rest) rest
      one true h = ap ((first + n) ∷◌) h
      one false h = h

      go : (b : Bool) → own_places a start first (places_from g (suc n) xs) ≡ rest
          → own_places a start first (cond b (n ∷ places_from g (suc n) xs) (places_from g (suc n) xs)) ≡ cond (is_set (product_flag true (as_bit b) (get_or a (start + n) 0))) ((first + n) ∷ rest) rest
      go true h = one (eqb (get_or a (start + n) 0) 0) h
      go false h = h
