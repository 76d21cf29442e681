-- The new parts of some rows are, in ascending order, those that the value falls into and whose guards hold.
-- Assumes nothing.
use mathlib.Core.Path.{◌≡◌, refl, sym, ap, ap₂, ◌∙◌, subst}
use mathlib.Core.Bool.{Bool, true, false, not, ◌&&◌, ◌||◌, cond}
use mathlib.Core.List.{List, [], ◌∷◌, ◌++◌}
use Prim.Native.Nat.{ℕ, zero, suc, ◌+◌, ◌-◌, ◌*◌, ◌≤◌, ◌<◌}
use native.Mathlib.Omega.{arith}
use lib.Dec.{leb, eqb}
use lib.ListN.{length, set}
use borrow.Author.Tests.{eq-eqb, eqb-true, leb-true, le-leb}
use Rattle.model.specs.Lists.{one_of}
use Rattle.model.specs.Values.{in_range}
use Rattle.model.specs.Raw.{rows}
use Rattle.model.proofs.Readers.{All}
use Rattle.model.proofs.RawLaws.{rows_turn, rows_start, rows_end}
use Rattle.model.proofs.Booleans.{false-true, and_left, and_right}
use Rattle.arrays.specs.Put.{put}
use Rattle.arrays.proofs.PutLaws.{put-nil, put-cons}
use Rattle.arrays.proofs.Written.{Written, written-room, written-turn}
use Rattle.spans.specs.Spans.{rises_from}
use Rattle.parts.specs.Rows.{Row, part_in, parts_at}
use Rattle.parts.specs.Words.{plan_row_at, plan_rows_at}
use Rattle.places.specs.Places.{place_if, ascending}
use Rattle.places.proofs.PlaceLaws.{ascending-cons}
use Rattle.found.specs.Found.{taken, new_part, next_part, new_parts}

-- ---- one row

module _ (f : ℕ → Bool) (next v : ℕ) (r : Row) where
  pub not_held : (h : Bool) → h ≡ in_range r.range v → not h ≡ true → taken f next v r ≡ false
  unfolding taken
  not_held true e y = absurd (false-true y)
  not_held false e y = ap (◌&& (leb next (part_in r v) && f (part_in r v))) (sym e)

  module _ (h : Bool) (eh : h ≡ in_range r.range v) (yes : not h ≡ false) (k : ℕ) (ek : k ≡ part_in r v) where
    held : in_range r.range v ≡ true
    held = go h eh yes
      where
        go : (b : Bool) → b ≡ in_range r.range v → not b ≡ false → in_range r.range v ≡ true
        go true e y = sym e
        go false e y = absurd (false-true (sym y))

    pub not_new : k < next → taken f next v r ≡ false
    unfolding taken
    not_new low = go (leb next (part_in r v)) refl
      where
        go : (b : Bool) → leb next (part_in r v) ≡ b → (in_range r.range v && (leb next (part_in r v) && f (part_in r v))) ≡ false
        go true e = absurd (omega (arith, leb-true next (part_in r v) e))
        go false e = ap₂ (λ (x y : Bool). x && (y && f (part_in r v))) held e

    module _ (g : Bool) (eg : g ≡ f k) (new : next ≤ k) where
      fresh : taken f next v r ≡ g
      unfolding taken
      fresh = ap₂ (λ (x y : Bool). x && (y && f (part_in r v))) held (le-leb next (part_in r v) (omega arith)) ∙ ap f (sym ek) ∙ sym eg

      pub not-guarded : not g ≡ true → taken f next v r ≡ false
      not-guarded e = fresh ∙ go g e
        where
          go : (b : Bool) → not b ≡ true → b ≡ false
          go true y = absurd (false-true y)
          go false y = refl

      pub is-taken : not g ≡ false → taken f next v r ≡ true
      is-taken e = fresh ∙ go g e
        where
          go : (b : Bool) → not b ≡ false → b ≡ true
          go true y = refl
          go false y = absurd (false-true (sym y))

  pub none_new : taken f next v r ≡ false → (at : ℕ) (l : List ℕ) → ((at ≡ at + length (new_part f next v r)) × (next ≡ next_part f next v r)) × (l ≡ put at (new_part f next v r) l)
  unfolding new_part next_part
  none_new e at l = rw e ((omega arith, refl), sym (put-nil at l))

  module _ (e : taken f next v r ≡ true) (at k : ℕ) (l : List ℕ) (ek : k ≡ part_in r v) where
    pub one_room : at + length (new_part f next v r) ≤ length l → at < length l
    unfolding new_part
    one_room h =
        let z : length (new_part f next v r) ≡ 1 = rw e in
        omega arith

    pub one-new : at < length l → ((at + 1 ≡ at + length (new_part f next v r)) × (k + 1 ≡ next_part f next v r)) × (set l at k ≡ put at (new_part f next v r) l)
    unfolding new_part next_part
    one-new h = rw (e, ← ek) ((omega arith, refl), sym (put-nil (at + 1) (set l at k)) ∙ put-cons at k [] l h)

-- ---- row after row

module _ (f : ℕ → Bool) (v : ℕ) (w : List ℕ) (n i next : ℕ) where
  new_turn : i < n → (next' : ℕ) → next' ≡ next_part f next v (plan_row_at w (7 * i))
      → new_parts f next v (plan_rows_at w (0 + 7 * i) (n - i)) ≡ new_part f next v (plan_row_at w (7 * i)) ++ new_parts f next' v (plan_rows_at w (0 + 7 * (i + 1)) (n - (i + 1)))
  unfolding new_parts
  new_turn h next' e =
      ap (new_parts f next v) (rows_turn (plan_row_at w) 7 0 n i h)
      ∙ ap (λ (a : ℕ). new_part f next v (plan_row_at w a) ++ new_parts f (next_part f next v (plan_row_at w a)) v (plan_rows_at w (0 + 7 * (i + 1)) (n - (i + 1)))) (let z : 0 + 7 * i ≡ 7 * i = omega arith in z)
      ∙ ap (λ (x : ℕ). new_part f next v (plan_row_at w (7 * i)) ++ new_parts f x v (plan_rows_at w (0 + 7 * (i + 1)) (n - (i + 1)))) (sym e)

  pub new_end : n ≤ i → new_parts f next v (plan_rows_at w (0 + 7 * i) (n - i)) ≡ []
  unfolding new_parts
  new_end h = ap (new_parts f next v) (rows_end (plan_row_at w) 7 (0 + 7 * i) n i h)

  module _ (whole l₀ : List ℕ) (at : ℕ) (l : List ℕ) (inv : Written 1 whole l₀ at l (new_parts f next v (plan_rows_at w (0 + 7 * i) (n - i)))) (fit : 1 + length whole ≤ length l₀) (h : i < n) where
    pub new-room : at + length (new_part f next v (plan_row_at w (7 * i))) ≤ length l
    new-room =
        written-room 1 whole l₀ at l (new_parts f next v (plan_rows_at w (0 + 7 * i) (n - i))) inv fit (new_part f next v (plan_row_at w (7 * i)))
        (new_parts f (next_part f next v (plan_row_at w (7 * i))) v (plan_rows_at w (0 + 7 * (i + 1)) (n - (i + 1)))) (new_turn h (next_part f next v (plan_row_at w (7 * i))) refl)

    pub new-written : (next' at' : ℕ) (l' : List ℕ) → next' ≡ next_part f next v (plan_row_at w (7 * i)) → at' ≡ at + length (new_part f next v (plan_row_at w (7 * i))) → l' ≡ put at (new_part f next v (plan_row_at w (7 * i))) l
        → Written 1 whole l₀ at' l' (new_parts f next' v (plan_rows_at w (0 + 7 * (i + 1)) (n - (i + 1))))
    new-written next' at' l' en ea el =
        written-turn 1 whole l₀ at l (new_parts f next v (plan_rows_at w (0 + 7 * i) (n - i))) inv fit (new_part f next v (plan_row_at w (7 * i)))
        (new_parts f next' v (plan_rows_at w (0 + 7 * (i + 1)) (n - (i + 1)))) (new_turn h next' en) at' l' ea el

pub new-start : (f : ℕ → Bool) (v : ℕ) (w : List ℕ) (n : ℕ) → new_parts f 0 v (plan_rows_at w (0 + 7 * 0) (n - 0)) ≡ new_parts f 0 v (plan_rows_at w 0 n)
new-start f v w n = ap (new_parts f 0 v) (rows_start (plan_row_at w) 7 0 n)

-- what all rows are, each of them is
rows_all : (P : Row → Type 0) (w : List ℕ) (at n i : ℕ) → All P (plan_rows_at w at n) → i < n → P (plan_row_at w (at + 7 * i))
unfolding rows
rows_all P w at zero i h k = absurd (omega arith)
rows_all P w at (suc n) zero h k = subst (λ (a : ℕ). P (plan_row_at w a)) (let z : at ≡ at + 7 * 0 = omega arith in z) h.0
rows_all P w at (suc n) (suc i) h k = subst (λ (a : ℕ). P (plan_row_at w a)) (let z : (at + 7) + 7 * i ≡ at + 7 * suc i = omega arith in z) (rows_all P w (at + 7) n i h.1 (omega arith))

pub row_fits : (P : Row → Type 0) (w : List ℕ) (n i : ℕ) → All P (plan_rows_at w 0 n) → i < n → P (plan_row_at w (7 * i))
row_fits P w n i h k = subst (λ (a : ℕ). P (plan_row_at w a)) (let z : 0 + 7 * i ≡ 7 * i = omega arith in z) (rows_all P w 0 n i h k)

-- ---- which they are

taken-least : (f : ℕ → Bool) (next v : ℕ) (r : Row) → taken f next v r ≡ true → next ≤ part_in r v
unfolding taken
taken-least f next v r e = leb-true next (part_in r v) (and_left (leb next (part_in r v)) (f (part_in r v)) (and_right (in_range r.range v) (leb next (part_in r v) && f (part_in r v)) e))

module _ (f : ℕ → Bool) (v : ℕ) where
  pub new_ascending : (next : ℕ) (rs : List Row) → ascending next (new_parts f next v rs) ≡ true
  unfolding new_parts new_part next_part
  new_ascending next [] = unfold ascending in refl
  new_ascending next (r ∷ rs) = go (taken f next v r) refl (λ x. new_ascending x rs)
    where
      go : (b : Bool) → taken f next v r ≡ b → ((x : ℕ) → ascending x (new_parts f x v rs) ≡ true) → ascending next (place_if b (part_in r v) ++ new_parts f (cond b (part_in r v + 1) next) v rs) ≡ true
      go true e others =
          let z : part_in r v + 1 ≡ suc (part_in r v) = omega arith in
          ascending-cons next (part_in r v) (new_parts f (part_in r v + 1) v rs) (taken-least f next v r e) (ap (λ (x : ℕ). ascending x (new_parts f (part_in r v + 1) v rs)) (sym z) ∙ others (part_in r v + 1))
      go false e others = others next

  pub new_all : (P : ℕ → Type 0) (next : ℕ) (rs : List Row) → All P (parts_at v rs) → All P (new_parts f next v rs)
  unfolding new_parts new_part next_part parts_at taken
  new_all P next [] h = tt
  new_all P next (r ∷ rs) h = go (in_range r.range v) (leb next (part_in r v) && f (part_in r v)) h (λ x. new_all P x rs)
    where
      go : (b c : Bool) → All P (cond b (part_in r v ∷ parts_at v rs) (parts_at v rs)) → ((x : ℕ) → All P (parts_at v rs) → All P (new_parts f x v rs))
          → All P (place_if (b && c) (part_in r v) ++ new_parts f (cond (b && c) (part_in r v + 1) next) v rs)
      go true true h others = (h.0, others (part_in r v + 1) h.1)
      go true false h others = others next h.1
      go false c h others = others next h

-- a number below all of them stands nowhere
rises-least : (x k : ℕ) (l : List ℕ) → rises_from x l ≡ true → one_of k l ≡ true → x ≤ k
unfolding rises_from one_of
rises-least x k [] a h = absurd (false-true h)
rises-least x k (y ∷ ys) a h = go (eqb k y) refl (rises-least y k ys (and_right (leb x y) (rises_from y ys) a))
  where
    first : x ≤ y
    first = leb-true x y (and_left (leb x y) (rises_from y ys) a)

    go : (b : Bool) → eqb k y ≡ b → (one_of k ys ≡ true → y ≤ k) → x ≤ k
    go true e others = omega (arith, first, eqb-true k y e)
    go false e others = omega (arith, first, others (sym (ap (◌|| one_of k ys) e) ∙ h))

rise-rest : (x y : ℕ) (ys : List ℕ) → rises_from x (y ∷ ys) ≡ true → rises_from y ys ≡ true
unfolding rises_from
rise-rest x y ys a = and_right (leb x y) (rises_from y ys) a

module _ (f : ℕ → Bool) (v k : ℕ) where
  pub new_one : (x next : ℕ) (rs : List Row) → rises_from x (parts_at v rs) ≡ true → one_of k (new_parts f next v rs) ≡ (one_of k (parts_at v rs) && (leb next k && f k))
  unfolding new_parts new_part next_part parts_at taken one_of
  new_one x next [] a = refl
  new_one x next (r ∷ rs) a = go (in_range r.range v) (leb next (part_in r v) && f (part_in r v)) refl a (λ y n. new_one y n rs)
    where
      j : ℕ
      j = part_in r v

      ps : List ℕ
      ps = parts_at v rs

      test : Bool
      test = leb next k && f k

      -- the row's own part is new
      new : (leb next j && f j) ≡ true → rises_from j ps ≡ true → (b : Bool) → eqb k j ≡ b → (b || (one_of k ps && (leb (j + 1) k && f k))) ≡ ((b || one_of k ps) && test)
      new y up true e = sym (ap (λ (z : ℕ). leb next z && f z) (eqb-true k j e) ∙ y)
      new y up false e = others (one_of k ps) refl
        where
          others : (c : Bool) → one_of k ps ≡ c → (c && (leb (j + 1) k && f k)) ≡ (c && test)
          others false q = refl
          others true q =
              let low = rises-least j k ps up q in
              let least = leb-true next j (and_left (leb next j) (f j) y) in
              let other : (k ≡ j → ⊥) = λ z. false-true (sym e ∙ eq-eqb k j z) in
              ap (◌&& f k) (le-leb (j + 1) k (omega arith) ∙ sym (le-leb next k (omega arith)))

      -- it is not
      old : (leb next j && f j) ≡ false → (b : Bool) → eqb k j ≡ b → (one_of k ps && test) ≡ ((b || one_of k ps) && test)
      old y true e = nothing (one_of k ps) test (ap (λ (z : ℕ). leb next z && f z) (eqb-true k j e) ∙ y)
        where
          nothing : (c d : Bool) → d ≡ false → (c && d) ≡ d
          nothing true d q = refl
          nothing false d q = sym q
      old y false e = refl

      go : (b c : Bool) → (leb next j && f j) ≡ c → rises_from x (cond b (j ∷ ps) ps) ≡ true
          → ((y n : ℕ) → rises_from y ps ≡ true → one_of k (new_parts f n v rs) ≡ (one_of k ps && (leb n k && f k)))
          → one_of k (place_if (b && c) j ++ new_parts f (cond (b && c) (j + 1) next) v rs) ≡ (one_of k (cond b (j ∷ ps) ps) && test)
      go true true y a others =
          let up = rise-rest x j ps a in
          ap (eqb k j ||◌) (others j (j + 1) up) ∙ new y up (eqb k j) refl
      go true false y a others = others j next (rise-rest x j ps a) ∙ old y (eqb k j) refl
      go false c y a others = others x next a
