-- A list whose front is kept where something is written after it.
-- Assumes nothing.
use mathlib.Core.Path.{◌≡◌, sym, ap, ap₂, ◌∙◌}
use mathlib.Core.List.{List, [], ◌∷◌, ◌++◌, append_assoc, append-nil}
use Prim.Native.Nat.{ℕ, zero, suc, ◌+◌, ◌-◌, ◌≤◌, ◌<◌}
use native.Mathlib.Omega.{arith}
use lib.ListN.{length, get_or, take, drop, set, length-append, length-drop, drop_of_length-le}
use lib.Seq.{drop-cons, take_all, take-nil, take-take, take_at, drop_at, drop-drop, length-take-le, get_or-take, set-append_left, take-set-lt, drop-set-lt}
use borrow.Rule.Slice.PartMut.{put_mid}
use Rattle.arrays.specs.Put.{put}
use Rattle.arrays.proofs.PutLaws.{put-nil, put-zero, put-cons}

-- n elements from a on stand in the first a + n
part-front : (a n : ℕ) (l : List ℕ) → take n (drop a l) ≡ drop a (take (a + n) l)
part-front zero n l = ap (λ (m : ℕ). take m l) (let z : n ≡ 0 + n = omega arith in z)
part-front (suc a) n [] = take-nil n ∙ sym (ap (drop (suc a)) (take-nil {A = ℕ} (suc a + n)))
part-front (suc a) n (x ∷ xs) = part-front a n xs ∙ ap (λ (m : ℕ). drop (suc a) (take m (x ∷ xs))) (let z : suc (a + n) ≡ suc a + n = omega arith in z)

-- ---- the first c elements are the same

module _ (c : ℕ) (l l' : List ℕ) (same : take c l' ≡ take c l) where
  pub front_less : (b : ℕ) → b ≤ c → take b l' ≡ take b l
  front_less b h = sym (take-take b c l' h) ∙ ap (take b) same ∙ take-take b c l h

  pub front_get : (i : ℕ) → i < c → get_or l' i 0 ≡ get_or l i 0
  front_get i h = sym (get_or-take c l' i 0 h) ∙ ap (λ (x : List ℕ). get_or x i 0) same ∙ get_or-take c l i 0 h

  pub front_part : (a n : ℕ) → a + n ≤ c → take n (drop a l') ≡ take n (drop a l)
  front_part a n h = part-front a n l' ∙ ap (drop a) (front_less (a + n) h) ∙ sym (part-front a n l)

-- ---- what was written from c on

module _ (c : ℕ) (xs l : List ℕ) (fit : c ≤ length l) where
  pub put_front : take c (put c xs l) ≡ take c l
  unfolding put
  put_front = ap (take c) (append_assoc (take c l) xs (drop (c + length xs) l)) ∙ take_at (take c l) (xs ++ drop (c + length xs) l) c (length-take-le c l fit)

  pub put_rest : drop c (put c xs l) ≡ xs ++ drop (c + length xs) l
  unfolding put
  put_rest = ap (drop c) (append_assoc (take c l) xs (drop (c + length xs) l)) ∙ drop_at (take c l) (xs ++ drop (c + length xs) l) c (length-take-le c l fit)

-- a store before what was written
pub set-put : (i v : ℕ) (xs l : List ℕ) → i < length l → set (put (i + 1) xs l) i v ≡ put i (v ∷ xs) l
unfolding put
set-put i v xs l h =
    let n = length-take-le (i + 1) l (omega arith) in
    let rest = drop (i + 1 + length xs) l in
    set-append_left (take (i + 1) l ++ xs) rest i v (omega (arith, length-append (take (i + 1) l) xs, n))
    ∙ ap (◌++ rest) (set-append_left (take (i + 1) l) xs i v (omega (arith, n)))
    ∙ ap₂ (λ (a b : List ℕ). a ++ xs ++ b) (sym (take-set-lt (i + 1) l i v (omega arith))) (sym (drop-set-lt (i + 1 + length xs) l i v (omega arith)))
    ∙ put-cons i v xs l h

-- ---- all from c on was lent and has come back

module _ (c : ℕ) (l : List ℕ) (fit : c ≤ length l) where
  pub lent_all : take (length l - c) (drop c l) ≡ drop c l
  lent_all = take_all (length l - c) (drop c l) (omega (arith, length-drop c l))

  pub lent_length : length (take (length l - c) (drop c l)) ≡ length l - c
  lent_length = ap length lent_all ∙ length-drop c l

  module _ (x : List ℕ) where
    pub back-front : take c (put_mid c (length l - c) l x) ≡ take c l
    back-front = take_at (take c l) (x ++ drop (length l - c) (drop c l)) c (length-take-le c l fit)

    pub back-rest : drop c (put_mid c (length l - c) l x) ≡ x
    back-rest =
        drop_at (take c l) (x ++ drop (length l - c) (drop c l)) c (length-take-le c l fit)
        ∙ ap (x ++◌) (drop_of_length-le (drop c l) {i = length l - c} (omega (arith, length-drop c l)))
        ∙ append-nil x

    -- elements were written from its start on
    pub back-put : (xs : List ℕ) → x ≡ put 0 xs (take (length l - c) (drop c l)) → put_mid c (length l - c) l x ≡ put c xs l
    unfolding put
    back-put xs e =
        ap (λ (y : List ℕ). take c l ++ (x ++ y)) (drop_of_length-le (drop c l) {i = length l - c} (omega (arith, length-drop c l)))
        ∙ ap (take c l ++◌) (append-nil x ∙ e ∙ ap (put 0 xs) lent_all ∙ put-zero xs (drop c l) ∙ ap (xs ++◌) (drop-drop (length xs) c l))
        ∙ sym (append_assoc (take c l) xs (drop (c + length xs) l))

-- ---- the first n elements of another list, written one after another

module _ (n i : ℕ) (from out whole : List ℕ) (inv : put i (drop i (take n from)) out ≡ whole) where
  pub copy_turn : i < n → n ≤ length from → i < length out → put (i + 1) (drop (i + 1) (take n from)) (set out i (get_or from i 0)) ≡ whole
  copy_turn h k room =
      let long = length-take-le n from k in
      let z : i + 1 ≡ suc i = omega arith in
      put-cons i (get_or from i 0) (drop (i + 1) (take n from)) out room
      ∙ ap₂ (λ (v m : ℕ). put i (v ∷ drop m (take n from)) out) (sym (get_or-take n from i 0 h)) z
      ∙ ap (λ (x : List ℕ). put i x out) (sym (drop-cons (take n from) i 0 (omega (arith, long))))
      ∙ inv

  pub copy_end : n ≤ i → n ≤ length from → out ≡ whole
  copy_end h k =
      let long = length-take-le n from k in
      sym (ap (λ (x : List ℕ). put i x out) (drop_of_length-le (take n from) {i = i} (omega (arith, long))) ∙ put-nil i out) ∙ inv
