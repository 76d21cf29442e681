-- Laws of places.
-- Assumes nothing.
use Prim.Native.Nat.{ℕ, zero, suc, ◌+◌, ◌≤◌, ◌<◌}
use mathlib.Core.Path.{◌≡◌, refl, ap, ap₂, sym, ◌∙◌}
use mathlib.Core.Bool.{Bool, true, false, ◌&&◌, ◌||◌, cond}
use mathlib.Core.List.{List, [], ◌∷◌, ◌++◌, map}
use native.Mathlib.Nat.{add-zero}
use native.Mathlib.Omega.{arith}
use lib.Dec.{leb, eqb}
use borrow.Author.Tests.{leb-true, leb-false, le-leb, eq-eqb, ne_eqb, eqb-true}
use native.Mathlib.Numerals.{add-one}
use lib.Seq.{drop-cons}
use lib.ListN.{length, get_or, take, drop, drop_of_length-le, length-take}
use Rattle.model.specs.Lists.{one_of}
use Rattle.model.proofs.Readers.{All}
use Rattle.model.proofs.Booleans.{false-true, and_left, and_right}
use Rattle.arrays.specs.Put.{put}
use Rattle.arrays.proofs.Written.{Written, written-room, written-turn}
use Rattle.places.specs.Places.{place_if, places_from, ascending}

-- one list after the other
pub places-append : {A : Type 0} (f : A → Bool) (n : ℕ) (xs ys : List A) → places_from f n (xs ++ ys) ≡ places_from f n xs ++ places_from f (n + length xs) ys
unfolding places_from
places-append f n [] ys = rw (add-zero n)
places-append f n (x ∷ xs) ys =
    let e : suc n + length xs ≡ n + suc (length xs) = omega arith in
    let h = places-append f (suc n) xs ys ∙ ap (λ (m : ℕ). places_from f (suc n) xs ++ places_from f m ys) e in
    go (f x) h
  where
    go : (b : Bool) → places_from f (suc n) (xs ++ ys) ≡ places_from f (suc n) xs ++ places_from f (n + suc (length xs)) ys → cond b (n ∷ places_from f (suc n) (xs ++ ys)) (places_from f (suc n) (xs ++ ys)) ≡ cond b (n ∷ places_from f (suc n) xs) (places_from f (suc n) xs) ++ places_from f (n + suc (length xs)) ys
    go true h = ap (n ∷◌) h
    go false h = h

pub places-map : {A B : Type 0} (f : B → Bool) (g : A → B) (n : ℕ) (xs : List A) → places_from f n (map g xs) ≡ places_from (λ x. f (g x)) n xs
unfolding places_from
places-map f g n [] = refl
places-map f g n (x ∷ xs) = ap (λ (l : List ℕ). cond (f (g x)) (n ∷ l) l) (places-map f g (suc n) xs)

-- where the tests agree
pub places-agree : {A : Type 0} (f g : A → Bool) (n : ℕ) (xs : List A) → All (λ x. f x ≡ g x) xs → places_from f n xs ≡ places_from g n xs
unfolding places_from
places-agree f g n [] h = refl
places-agree f g n (x ∷ xs) h = ap₂ (λ (b : Bool) (l : List ℕ). cond b (n ∷ l) l) h.0 (places-agree f g (suc n) xs h.1)

-- where it is true of none
pub places-none : {A : Type 0} (f : A → Bool) (n : ℕ) (xs : List A) → All (λ x. f x ≡ false) xs → places_from f n xs ≡ []
unfolding places_from
places-none f n [] h = refl
places-none f n (x ∷ xs) h = ap (λ (b : Bool). cond b (n ∷ places_from f (suc n) xs) (places_from f (suc n) xs)) h.0 ∙ places-none f (suc n) xs h.1

-- no more than the elements
pub places-few : {A : Type 0} (f : A → Bool) (n : ℕ) (xs : List A) → length (places_from f n xs) ≤ length xs
unfolding places_from
places-few f n [] = omega arith
places-few f n (x ∷ xs) = go (f x) (places-few f (suc n) xs)
  where
    go : (b : Bool) → length (places_from f (suc n) xs) ≤ length xs → length (cond b (n ∷ places_from f (suc n) xs) (places_from f (suc n) xs)) ≤ suc (length xs)
    go true h = omega arith
    go false h = omega arith

-- each is the place of an element
pub places-below : {A : Type 0} (f : A → Bool) (n : ℕ) (xs : List A) → All (λ k. k < n + length xs) (places_from f n xs)
unfolding places_from
places-below f n [] = tt
places-below f n (x ∷ xs) =
    let e : suc n + length xs ≡ n + suc (length xs) = omega arith in
    go (f x) (rw (← e) (places-below f (suc n) xs))
  where
    go : (b : Bool) → All (λ k. k < n + suc (length xs)) (places_from f (suc n) xs) → All (λ k. k < n + suc (length xs)) (cond b (n ∷ places_from f (suc n) xs) (places_from f (suc n) xs))
    go true h = (omega arith, h)
    go false h = h

-- ---- one element after the other

places-first : {A : Type 0} (f : A → Bool) (n : ℕ) (x : A) (xs : List A) → places_from f n (x ∷ xs) ≡ place_if (f x) n ++ places_from f (suc n) xs
unfolding places_from
places-first f n x xs = go (f x)
  where
    go : (b : Bool) → cond b (n ∷ places_from f (suc n) xs) (places_from f (suc n) xs) ≡ place_if b n ++ places_from f (suc n) xs
    go true = refl
    go false = refl

module _ {A : Type 0} (f : A → Bool) (n : ℕ) (xs : List A) where
  -- before the first, and after the last
  pub places_start : places_from f (n + 0) (drop 0 xs) ≡ places_from f n xs
  places_start = ap (λ (m : ℕ). places_from f m xs) (add-zero n)

  pub places_end : (i : ℕ) → length xs ≤ i → places_from f (n + i) (drop i xs) ≡ []
  places_end i h = ap (places_from f (n + i)) (drop_of_length-le xs h) ∙ (unfold places_from in refl)

  -- the next
  pub places_turn : (d : A) (i : ℕ) → i < length xs → places_from f (n + i) (drop i xs) ≡ place_if (f (get_or xs i d)) (n + i) ++ places_from f (n + (i + 1)) (drop (i + 1) xs)
  places_turn d i h =
      let e : suc (n + i) ≡ n + (i + 1) = omega arith in
      ap (places_from f (n + i)) (drop-cons xs i d h ∙ ap (λ (m : ℕ). get_or xs i d ∷ drop m xs) (sym (add-one i)))
      ∙ places-first f (n + i) (get_or xs i d) (drop (i + 1) xs)
      ∙ ap (λ (m : ℕ). place_if (f (get_or xs i d)) (n + i) ++ places_from f m (drop (i + 1) xs)) e

-- ---- flags, and kinds

pub place-room : (at n : ℕ) (b : Bool) (l : List ℕ) → b ≡ true → at + length (place_if b n) ≤ length l → at < length l
place-room at n true l e h = omega arith
place-room at n false l e h = absurd (false-true e)

pub one_place : (b : Bool) (n : ℕ) → length (place_if b n) ≤ 1
one_place true n = omega arith
one_place false n = omega arith

module _ (f : ℕ → Bool) (base n : ℕ) (flags : List ℕ) where
  -- no more than there are flags
  pub set_few : length (places_from f base (take n flags)) ≤ n
  set_few = omega (arith, places-few f base (take n flags), length-take n flags)

-- ---- written one after the other

module _ (f : ℕ → Bool) (base : ℕ) (xs out₀ : List ℕ) (fit : length (places_from f base xs) ≤ length out₀) (i c : ℕ) (out : List ℕ) (h : i < length xs)
    (inv : Written 0 (places_from f base xs) out₀ c out (places_from f (base + i) (drop i xs))) (b : Bool) (e : b ≡ f (get_or xs i 0)) where
  next : places_from f (base + i) (drop i xs) ≡ place_if b (base + i) ++ places_from f (base + (i + 1)) (drop (i + 1) xs)
  next = places_turn f base xs 0 i h ∙ ap (λ (x : Bool). place_if x (base + i) ++ places_from f (base + (i + 1)) (drop (i + 1) xs)) (sym e)

  -- the next fits where all do
  pub place_room : c + length (place_if b (base + i)) ≤ length out
  place_room = written-room 0 (places_from f base xs) out₀ c out (places_from f (base + i) (drop i xs)) inv (omega arith) (place_if b (base + i)) (places_from f (base + (i + 1)) (drop (i + 1) xs)) next

  pub place_turn : (d : ℕ) (l : List ℕ) → d ≡ c + length (place_if b (base + i)) → l ≡ put c (place_if b (base + i)) out → Written 0 (places_from f base xs) out₀ d l (places_from f (base + (i + 1)) (drop (i + 1) xs))
  place_turn = written-turn 0 (places_from f base xs) out₀ c out (places_from f (base + i) (drop i xs)) inv (omega arith) (place_if b (base + i)) (places_from f (base + (i + 1)) (drop (i + 1) xs)) next

-- ---- in ascending order

pub ascending-head : (x y : ℕ) (ys : List ℕ) → ascending x (y ∷ ys) ≡ true → x ≤ y
unfolding ascending
ascending-head x y ys a = leb-true x y (and_left (leb x y) (ascending (suc y) ys) a)

pub ascending_tail : (x y : ℕ) (ys : List ℕ) → ascending x (y ∷ ys) ≡ true → ascending (suc y) ys ≡ true
unfolding ascending
ascending_tail x y ys a = and_right (leb x y) (ascending (suc y) ys) a

pub ascending-cons : (x y : ℕ) (ys : List ℕ) → x ≤ y → ascending (suc y) ys ≡ true → ascending x (y ∷ ys) ≡ true
unfolding ascending
ascending-cons x y ys h a = ap₂ ◌&&◌ (le-leb x y h) a

pub ascending-from : (x y : ℕ) (l : List ℕ) → y ≤ x → ascending x l ≡ true → ascending y l ≡ true
ascending-from x y [] h a = unfold ascending in refl
ascending-from x y (z ∷ zs) h a =
    let g = ascending-head x z zs a in
    ascending-cons y z zs (omega arith) (ascending_tail x z zs a)

pub ascending-places : {A : Type 0} (f : A → Bool) (n : ℕ) (xs : List A) → ascending n (places_from f n xs) ≡ true
unfolding places_from
ascending-places f n [] = unfold ascending in refl
ascending-places f n (x ∷ xs) = go (f x) (ascending-places f (suc n) xs)
  where
    go : (b : Bool) → ascending (suc n) (places_from f (suc n) xs) ≡ true → ascending n (cond b (n ∷ places_from f (suc n) xs) (places_from f (suc n) xs)) ≡ true
    go true h = ascending-cons n n (places_from f (suc n) xs) (omega arith) h
    go false h = ascending-from (suc n) n (places_from f (suc n) xs) (omega arith) h

-- a number below all of them stands nowhere
pub one_of-below : (k x : ℕ) (l : List ℕ) → k < x → ascending x l ≡ true → one_of k l ≡ false
unfolding one_of
one_of-below k x [] h a = refl
one_of-below k x (y ∷ ys) h a =
    let g = ascending-head x y ys a in
    ap₂ ◌||◌ (ne_eqb k y (λ (e : k ≡ y). omega arith)) (one_of-below k (suc y) ys (omega arith) (ascending_tail x y ys a))

pub one_of-places : {A : Type 0} (f : A → Bool) (d : A) (n k : ℕ) (xs : List A) → k < length xs → one_of (n + k) (places_from f n xs) ≡ f (get_or xs k d)
unfolding one_of places_from
one_of-places f d n k [] h = absurd (omega arith)
one_of-places f d n zero (x ∷ xs) h = first (f x)
  where
    first : (b : Bool) → one_of (n + 0) (cond b (n ∷ places_from f (suc n) xs) (places_from f (suc n) xs)) ≡ b
    first true = ap (◌|| one_of (n + 0) (places_from f (suc n) xs)) (eq-eqb (n + 0) n (omega arith))
    first false = one_of-below (n + 0) (suc n) (places_from f (suc n) xs) (omega arith) (ascending-places f (suc n) xs)
one_of-places f d n (suc k) (x ∷ xs) h =
    let e : suc n + k ≡ n + suc k = omega arith in
    go (f x) (rw (← e) (one_of-places f d (suc n) k xs (omega arith)))
  where
    go : (b : Bool) → one_of (n + suc k) (places_from f (suc n) xs) ≡ f (get_or xs k d) → one_of (n + suc k) (cond b (n ∷ places_from f (suc n) xs) (places_from f (suc n) xs)) ≡ f (get_or xs k d)
    go true h = ap (◌|| one_of (n + suc k) (places_from f (suc n) xs)) (ne_eqb (n + suc k) n (λ (e : n + suc k ≡ n). omega arith)) ∙ h
    go false h = h

-- the first of them is the least
head-least : (y z : ℕ) (zs : List ℕ) → ascending (suc z) zs ≡ true → one_of y (z ∷ zs) ≡ true → z ≤ y
head-least y z zs a h = go (leb z y) refl
  where
    go : (b : Bool) → leb z y ≡ b → z ≤ y
    go true e = leb-true z y e
    go false e = absurd (false-true (sym (one_of-below y z (z ∷ zs) (leb-false z y e) (ascending-cons z z zs (omega arith) a)) ∙ h))

none : (y : ℕ) → one_of y [] ≡ false
unfolding one_of
none y = refl

is-first : (y : ℕ) (ys : List ℕ) → one_of y (y ∷ ys) ≡ true
unfolding one_of
is-first y ys = ap (◌|| one_of y ys) (eq-eqb y y refl)

-- what stands in the rest of the one stands in the rest of the other
rest-same : (k z : ℕ) (zs ys : List ℕ) → ascending (suc z) zs ≡ true → ascending (suc z) ys ≡ true → one_of k (z ∷ zs) ≡ one_of k (z ∷ ys) → one_of k zs ≡ one_of k ys
unfolding one_of
rest-same k z zs ys a a' h = go (eqb k z) refl
  where
    go : (b : Bool) → eqb k z ≡ b → one_of k zs ≡ one_of k ys
    go true e =
        let i = eqb-true k z e in
        one_of-below k (suc z) zs (omega arith) a ∙ sym (one_of-below k (suc z) ys (omega arith) a')
    go false e = ap (◌|| one_of k zs) (sym e) ∙ h ∙ ap (◌|| one_of k ys) e

-- Two ascending lists of the same numbers below m are the same.
pub ascending-same : (x m : ℕ) (l l' : List ℕ) → ascending x l ≡ true → ascending x l' ≡ true → All (λ k. k < m) l → All (λ k. k < m) l' → ((k : ℕ) → k < m → one_of k l ≡ one_of k l') → l ≡ l'
ascending-same x m [] [] a a' b b' h = refl
ascending-same x m [] (y ∷ ys) a a' b b' h = absurd (false-true (sym (none y) ∙ h y b'.0 ∙ is-first y ys))
ascending-same x m (z ∷ zs) [] a a' b b' h = absurd (false-true (sym (none z) ∙ sym (h z b.0) ∙ is-first z zs))
ascending-same x m (z ∷ zs) (y ∷ ys) a a' b b' h =
    let u = ascending_tail x z zs a in
    let u' = ascending_tail x y ys a' in
    let p = head-least y z zs u (h y b'.0 ∙ is-first y ys) in
    let q = head-least z y ys u' (sym (h z b.0) ∙ is-first z zs) in
    let e : z ≡ y = omega arith in
    let v : ascending (suc z) ys ≡ true = rw e u' in
    ap₂ ◌∷◌ e (ascending-same (suc z) m zs ys u v b.1 b'.1 (λ k i. rest-same k z zs ys u v (h k i ∙ ap (λ (w : ℕ). one_of k (w ∷ ys)) (sym e))))
