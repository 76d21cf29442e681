-- Elements that are written one after the other, and one part after the other.
-- Assumes nothing.
use mathlib.Core.Path.{◌≡◌, refl, sym, ap, ap₂, ◌∙◌}
use mathlib.Core.Bool.{Bool, true, false}
use mathlib.Core.List.{List, [], ◌∷◌, ◌++◌, map}
use Prim.Native.Nat.{ℕ, suc, ◌+◌, ◌-◌, ◌≤◌, ◌<◌}
use native.Mathlib.Omega.{arith}
use lib.Dec.{ltb}
use lib.ListN.{length, get_or, set, replicate, length-append}
use lib.Seq.{ext_get_or}
use borrow.Author.Tests.{ltb-true, ltb-false}
use Rattle.model.specs.Lists.{up_from}
use Rattle.model.proofs.Lists.{one_left, none_left, length-row, get_d-row}
use Rattle.arrays.specs.Put.{put}
use Rattle.arrays.proofs.PutLaws.{put-nil, put-cons, put-put, length-put, put_first, put-after}

-- ---- one write

pub as_written : (cur e n : ℕ) (xs ys l l' : List ℕ) → ys ≡ xs → length xs ≡ n → e ≡ cur + n → l' ≡ put cur xs l → (e ≡ cur + length ys) × (l' ≡ put cur ys l)
as_written cur e n xs ys l l' q k p w = (p ∙ ap (cur +◌) (sym k ∙ ap length (sym q)), w ∙ ap (λ (z : List ℕ). put cur z l) (sym q))

-- nothing was written
pub unwritten : (cur : ℕ) (ys l : List ℕ) → ys ≡ [] → (cur ≡ cur + length ys) × (l ≡ put cur ys l)
unwritten cur ys l q = (sym (ap (λ (z : List ℕ). cur + length z) q ∙ omega arith), sym (ap (λ (z : List ℕ). put cur z l) q ∙ put-nil cur l))

-- ---- part after part

-- some of what is left was written, and the rest is left
pub put-turn : {A : Type 0} (c e : ℕ) (whole xs ys l l' : List A) → whole ≡ xs ++ ys → c + length whole ≤ length l → e ≡ c + length xs → l' ≡ put c xs l
    → (e + length ys ≡ c + length whole) × (put e ys l' ≡ put c whole l)
put-turn {A} c e whole xs ys l l' q fit ee el =
    let long : length whole ≡ length xs + length ys = ap length q ∙ length-append xs ys in
    (omega arith, ap₂ (λ (m : ℕ) (z : List A). put m ys z) ee el ∙ put-put c xs ys l (omega arith) ∙ ap (λ (z : List A). put c z l) (sym q))

-- nothing is left to write
pub put-end : {A : Type 0} (c cur : ℕ) (zs all l l₀ : List A) → zs ≡ [] → c + length zs ≡ cur + length all → put c zs l ≡ put cur all l₀ → (c ≡ cur + length all) × (l ≡ put cur all l₀)
put-end {A} c cur zs all l l₀ q e w = (omega (arith, ap length q), sym (ap (λ (z : List A). put c z l) q ∙ put-nil c l) ∙ w)

-- two writes in a row
pub both-written : {A : Type 0} (cur c e : ℕ) (xs ys zs l l₁ l₂ : List A) → zs ≡ xs ++ ys → cur + length zs ≤ length l → c ≡ cur + length xs → l₁ ≡ put cur xs l → e ≡ c + length ys → l₂ ≡ put c ys l₁
    → (e ≡ cur + length zs) × (l₂ ≡ put cur zs l)
both-written {A} cur c e xs ys zs l l₁ l₂ q fit ec w₁ ee w₂ =
    let long : length zs ≡ length xs + length ys = ap length q ∙ length-append xs ys in
    (omega arith, w₂ ∙ ap₂ (λ (m : ℕ) (z : List A). put m ys z) ec w₁ ∙ put-put cur xs ys l (omega arith) ∙ ap (λ (z : List A). put cur z l) (sym q))

-- `whole` is written from `at` on over l₀: l is what there is now, and `rest` is to be written from c on
pub record Written {A : Type 0} (at : ℕ) (whole l₀ : List A) (c : ℕ) (l rest : List A) : Type 0 where
  pub kept : length l ≡ length l₀
  pub place : c + length rest ≡ at + length whole
  pub same : put c rest l ≡ put at whole l₀

pub written_start : {A : Type 0} (at : ℕ) (whole rest l : List A) → rest ≡ whole → Written at whole l at l rest
written_start {A = A} at whole rest l e = record { kept = refl; place = ap (λ (x : List A). at + length x) e; same = ap (λ (x : List A). put at x l) e }

module _ {A : Type 0} (at : ℕ) (whole l₀ : List A) (c : ℕ) (l rest : List A) (inv : Written at whole l₀ c l rest) where
  pub written_end : rest ≡ [] → (c ≡ at + length whole) × (l ≡ put at whole l₀)
  written_end e = put-end c at rest whole l l₀ e inv.place inv.same

  module _ (fit : at + length whole ≤ length l₀) (xs others : List A) (e : rest ≡ xs ++ others) where
    pub written-room : c + length xs ≤ length l
    written-room = omega (arith, ap length e ∙ length-append xs others, inv.place, inv.kept)

    pub written-turn : (d : ℕ) (l' : List A) → d ≡ c + length xs → l' ≡ put c xs l → Written at whole l₀ d l' others
    written-turn d l' ed el =
        let turn = put-turn c d rest xs others l l' e (omega (arith, inv.place, inv.kept)) ed el in
        record { kept = ap length el ∙ length-put c xs l written-room ∙ inv.kept; place = turn.0 ∙ inv.place; same = turn.1 ∙ inv.same }

-- ---- the same element again and again

pub same_turn : {A : Type 0} (e i : ℕ) (v : A) (l : List A) → i < e → i < length l → put (i + 1) (replicate (e - (i + 1)) v) (set l i v) ≡ put i (replicate (e - i) v) l
same_turn e i v l h k = rw (one_left e i h) (put-cons i v (replicate (e - (i + 1)) v) l k)

pub same_end : {A : Type 0} (e i : ℕ) (v : A) (l whole : List A) → put i (replicate (e - i) v) l ≡ whole → e ≤ i → l ≡ whole
same_end {A} e i v l whole inv h = sym (put-nil i l) ∙ ap (λ (m : ℕ). put i (replicate m v) l) (sym (none_left e i h)) ∙ inv

-- ---- g p, g (p + 1), ..

pub fill-turn : (g : ℕ → ℕ) (a p n i v : ℕ) (l whole : List ℕ) → put a (map g (up_from p (n - i))) l ≡ whole → v ≡ g p → i < n → a < length l
    → put (a + 1) (map g (up_from (p + 1) (n - (i + 1)))) (set l a v) ≡ whole
unfolding up_from
fill-turn g a p n i v l whole inv e h k =
    let z : p + 1 ≡ suc p = omega arith in
    put-cons a v (map g (up_from (p + 1) (n - (i + 1)))) l k
    ∙ ap₂ (λ (x q : ℕ). put a (x ∷ map g (up_from q (n - (i + 1)))) l) e z
    ∙ ap (λ (m : ℕ). put a (map g (up_from p m)) l) (sym (one_left n i h))
    ∙ inv

pub fill_end : (g : ℕ → ℕ) (a p n i : ℕ) (l whole : List ℕ) → put a (map g (up_from p (n - i))) l ≡ whole → n ≤ i → l ≡ whole
unfolding up_from
fill_end g a p n i l whole inv h = sym (put-nil a l) ∙ ap (λ (m : ℕ). put a (map g (up_from p m)) l) (sym (none_left n i h)) ∙ inv

-- the list that has g at the first m places, and else what stood there
pub put_numbers : (g : ℕ → ℕ) (m : ℕ) (l l' : List ℕ) → length l' ≡ length l → m ≤ length l → ((q : ℕ) → q < m → get_or l' q 0 ≡ g q) → ((q : ℕ) → m ≤ q → get_or l' q 0 ≡ get_or l q 0)
    → l' ≡ put 0 (map g (up_from 0 m)) l
put_numbers g m l l' e h first others =
    let n = length-row g 0 m in
    ext_get_or 0 l' (put 0 (map g (up_from 0 m)) l) (e ∙ sym (length-put 0 (map g (up_from 0 m)) l (omega arith))) (λ i k. go i (ltb i m) refl)
  where
    go : (i : ℕ) (b : Bool) → ltb i m ≡ b → get_or l' i 0 ≡ get_or (put 0 (map g (up_from 0 m)) l) i 0
    go i true q =
        let k = ltb-true i m q in
        let n = length-row g 0 m in
        first i k ∙ ap g (let z : i ≡ 0 + i = omega arith in z) ∙ sym (get_d-row g 0 m i 0 k)
        ∙ sym (put_first (map g (up_from 0 m)) l i 0 (omega arith))
    go i false q =
        let k = ltb-false i m q in
        let n = length-row g 0 m in
        others i k ∙ sym (put-after 0 (map g (up_from 0 m)) l i 0 (omega arith) (omega arith))
