-- Laws of elements written at a place.
-- Assumes nothing.
use mathlib.Core.Path.{◌≡◌, ap, ap₂, sym, ◌∙◌}
use mathlib.Core.List.{List, [], ◌∷◌, ◌++◌, append_assoc, append-nil}
use Prim.Native.Nat.{ℕ, ◌+◌, ◌-◌, ◌≤◌, ◌<◌}
use native.Mathlib.Nat.{add-zero, zero-add, add_assoc}
use native.Mathlib.Numerals.{add-one}
use native.Mathlib.Omega.{arith}
use lib.ListN.{length, take, drop, get_or, set, length-append, length-take, length-drop, take-append-drop, drop_of_length-le, get_or-append}
use lib.Seq.{drop-set-lt, take-suc-set, append_snoc, take_at, drop_at, drop-drop, length-take-le, get_or-append-add, get_or-take, get_or-drop}
use borrow.Rule.Slice.PartMut.{put_mid, Post-is}
use Rattle.arrays.specs.Put.{put}

-- ---- words written at a place

pub put-nil : {A : Type 0} (n : ℕ) (l : List A) → put n [] l ≡ l
unfolding put
put-nil n l = rw (add-zero n, append-nil (take n l)) (take-append-drop n l)

pub put-zero : {A : Type 0} (xs l : List A) → put 0 xs l ≡ xs ++ drop (length xs) l
unfolding put
put-zero xs l = rw zero-add

-- over the whole list
pub put_all : {A : Type 0} (xs l : List A) → length l ≤ length xs → put 0 xs l ≡ xs
put_all xs l h = put-zero xs l ∙ ap (xs ++◌) (drop_of_length-le l h) ∙ append-nil xs

pub length-put : {A : Type 0} (n : ℕ) (xs l : List A) → n + length xs ≤ length l → length (put n xs l) ≡ length l
unfolding put
length-put n xs l h = simp (length-append, length-take, length-drop) (omega arith)

-- a store at i, and then the rest
pub put-cons : {A : Type 0} (i : ℕ) (v : A) (xs l : List A) → i < length l → put (i + 1) xs (set l i v) ≡ put i (v ∷ xs) l
unfolding put
put-cons i v xs l h =
    let e : (i + 1) + length xs ≡ i + length (v ∷ xs) = omega arith in
    rw (drop-set-lt ((i + 1) + length xs) l i v (omega arith), e, add-one i, take-suc-set l i v, append_snoc (take i l) v xs)

-- a second write that begins where the first ends
pub put-put : {A : Type 0} (n : ℕ) (xs ys l : List A) → n + length xs ≤ length l → put (n + length xs) ys (put n xs l) ≡ put n (xs ++ ys) l
unfolding put
put-put n xs ys l h =
    let p = take n l in
    let m = n + length xs in
    let q = drop m l in
    let w = p ++ xs ++ q in
    let lp : length (p ++ xs) ≡ m = simp (length-append, length-take) (omega arith) in
    rw (take_at (p ++ xs) q m lp, ← drop-drop (length ys) m w, drop_at (p ++ xs) q m lp, drop-drop (length ys) m l, length-append xs ys, ← add_assoc n (length xs) (length ys), append_assoc p xs ys)

-- the same, with the number of words that the first wrote
pub put_next : {A : Type 0} (n m : ℕ) (xs ys l : List A) → length xs ≡ m → n + m ≤ length l → put (n + m) ys (put n xs l) ≡ put n (xs ++ ys) l
put_next n m xs ys l e h = rw (← e) (put-put n xs ys l (omega arith))

-- past what was written nothing changed
pub drop-put : {A : Type 0} (n m : ℕ) (xs l : List A) → length xs ≡ m → n + m ≤ length l → drop (n + m) (put n xs l) ≡ drop (n + m) l
unfolding put
drop-put n m xs l e h = rw e (drop_at (take n l ++ xs) (drop (n + m) l) (n + m) (simp (length-append, length-take) (omega arith)))

-- the words that stood there, written once more
pub put_same : {A : Type 0} (n m : ℕ) (l : List A) → n + m ≤ length l → put n (take m (drop n l)) l ≡ l
unfolding put
put_same n m l h =
    let e : length (take m (drop n l)) ≡ m = simp (length-take, length-drop) (omega arith) in
    rw (e, append_assoc (take n l) (take m (drop n l)) (drop (n + m) l), ← drop-drop m n l, take-append-drop m (drop n l)) (take-append-drop n l)

-- what was written stands there
pub part-put : {A : Type 0} (n m : ℕ) (xs l : List A) → length xs ≡ m → n + m ≤ length l → take m (drop n (put n xs l)) ≡ xs
unfolding put
part-put n m xs l e h =
    let k : length (take n l) ≡ n = length-take-le n l (omega arith) in
    rw (append_assoc (take n l) xs (drop (n + length xs) l), drop_at (take n l) (xs ++ drop (n + length xs) l) n k) (take_at xs (drop (n + length xs) l) m e)

-- a part that was lent and has come back
pub part-back : {A : Type 0} (a n : ℕ) (xs ys : List A) → length ys ≡ n → put_mid a ((a + n) - a) xs ys ≡ put a ys xs
unfolding put
part-back a n xs ys h =
    rw (Post-is a (a + n) xs (omega arith), h) (sym (append_assoc (take a xs) ys (drop (a + n) xs)))

-- what was written from the start on
pub front-put : {A : Type 0} (m : ℕ) (xs l : List A) → length xs ≡ m → m ≤ length l → take m (put 0 xs l) ≡ xs
front-put m xs l e h = part-put 0 m xs l e (omega arith)

-- a slice keeps its length, so that what was written had room there
pub put-fits : {A : Type 0} (xs l l' : List A) → l' ≡ put 0 xs l → length l' ≡ length l → length xs ≤ length l
put-fits xs l l' e k = omega (arith, ap length (e ∙ put-zero xs l), length-append xs (drop (length xs) l))

pub front_kept : {A : Type 0} (m : ℕ) (xs l l' : List A) → length xs ≡ m → l' ≡ put 0 xs l → length l' ≡ length l → (take m l' ≡ xs) × (m ≤ length l')
front_kept m xs l l' n e k =
    let h = put-fits xs l l' e k in
    (ap (take m) e ∙ front-put m xs l n (omega arith), omega arith)

-- ---- what stands where something was written

pub put_in : {A : Type 0} (n : ℕ) (xs l : List A) (i : ℕ) (d : A) → n ≤ length l → i < length xs → get_or (put n xs l) (n + i) d ≡ get_or xs i d
unfolding put
put_in n xs l i d h k =
    let e : length (take n l) ≡ n = length-take-le n l h in
    let inside : n + i < length (take n l ++ xs) = simp length-append (omega arith) in
    let z : n + i ≡ length (take n l) + i = omega arith in
    get_or-append (take n l ++ xs) (drop (n + length xs) l) d (n + i) inside
    ∙ ap (λ (x : ℕ). get_or (take n l ++ xs) x d) z
    ∙ get_or-append-add (take n l) xs i d

pub put_first : {A : Type 0} (xs l : List A) (i : ℕ) (d : A) → i < length xs → get_or (put 0 xs l) i d ≡ get_or xs i d
put_first xs l i d h = ap (λ (x : ℕ). get_or (put 0 xs l) x d) (let z : i ≡ 0 + i = omega arith in z) ∙ put_in 0 xs l i d (omega arith) h

pub put-before : {A : Type 0} (n : ℕ) (xs l : List A) (i : ℕ) (d : A) → n ≤ length l → i < n → get_or (put n xs l) i d ≡ get_or l i d
unfolding put
put-before n xs l i d h k =
    let e : length (take n l) ≡ n = length-take-le n l h in
    get_or-append (take n l ++ xs) (drop (n + length xs) l) d i (simp length-append (omega arith))
    ∙ get_or-append (take n l) xs d i (omega arith)
    ∙ get_or-take n l i d k

pub put-after : {A : Type 0} (n : ℕ) (xs l : List A) (i : ℕ) (d : A) → n ≤ length l → n + length xs ≤ i → get_or (put n xs l) i d ≡ get_or l i d
unfolding put
put-after n xs l i d h k =
    let e : length (take n l) ≡ n = length-take-le n l h in
    let m = n + length xs in
    let q : length (take n l ++ xs) ≡ m = simp length-append (omega arith) in
    let z : i ≡ length (take n l ++ xs) + (i - m) = omega arith in
    let y : m + (i - m) ≡ i = omega arith in
    ap (λ (x : ℕ). get_or ((take n l ++ xs) ++ drop m l) x d) z
    ∙ get_or-append-add (take n l ++ xs) (drop m l) (i - m) d
    ∙ get_or-drop m l (i - m) d
    ∙ ap (λ (x : ℕ). get_or l x d) y

-- elements over as many others
pub put-at : {A : Type 0} (n : ℕ) (p xs ys q : List A) → length p ≡ n → length xs ≡ length ys → put n xs (p ++ ys ++ q) ≡ p ++ xs ++ q
unfolding put
put-at {A} n p xs ys q e l =
    ap₂ (λ (a b : List A). a ++ xs ++ b) (ap (take n) (append_assoc p ys q) ∙ take_at p (ys ++ q) n e) (drop_at (p ++ ys) q (n + length xs) (omega (arith, length-append p ys)))
