-- Laws of counts that are raised at listed places.
-- Assumes nothing.
use Prim.Native.Nat.{ℕ, suc, ◌+◌, ◌≤◌, ◌<◌}
use mathlib.Core.Path.{◌≡◌, refl, sym, ap, ◌∙◌}
use mathlib.Core.Bool.{true}
use mathlib.Core.List.{List, [], ◌∷◌}
use native.Mathlib.Omega.{arith}
use lib.Seq.{drop-set-lt, get_or-set_other}
use lib.ListN.{length, drop, get_or, set, length-set, drop_of_length-le}
use Rattle.model.proofs.Readers.{All}
use Rattle.model.proofs.Lists.{head_tail}
use Rattle.places.specs.Places.{ascending}
use Rattle.places.specs.Raises.{raise_each, Raisable}
use Rattle.places.proofs.PlaceLaws.{ascending-head, ascending_tail, ascending-from}

-- ---- one turn

raise-none : (at : ℕ) (w : List ℕ) → raise_each at [] w ≡ w
unfolding raise_each
raise-none at w = refl

pub raise-first : (at x : ℕ) (xs w : List ℕ) → raise_each at (x ∷ xs) w ≡ raise_each at xs (set w (at + x) (get_or w (at + x) 0 + 1))
unfolding raise_each
raise-first at x xs w = refl

-- the counts of later places are as they were
later-room : (at x v : ℕ) (w ys : List ℕ) → ascending (suc x) ys ≡ true → All (λ y. get_or w (at + y) 0 < 4294967295) ys → All (λ y. get_or (set w (at + x) v) (at + y) 0 < 4294967295) ys
later-room at x v w [] a h = tt
later-room at x v w (y ∷ ys) a h =
    let g = ascending-head (suc x) y ys a in
    let e : get_or (set w (at + x) v) (at + y) 0 ≡ get_or w (at + y) 0 = get_or-set_other w (at + x) (at + y) v 0 (λ (z : at + y ≡ at + x). omega arith) in
    (rw e h.0, later-room at x v w ys (ascending-from (suc y) (suc x) ys (omega arith) (ascending_tail (suc x) y ys a)) h.1)

later-there : (at x v : ℕ) (w ys : List ℕ) → All (λ y. at + y < length w) ys → All (λ y. at + y < length (set w (at + x) v)) ys
later-there at x v w [] h = tt
later-there at x v w (y ∷ ys) h = (simp length-set h.0, later-there at x v w ys h.1)

raisable_tail : (at x v : ℕ) (xs w : List ℕ) → Raisable at (x ∷ xs) w → Raisable at xs (set w (at + x) v)
raisable_tail at x v xs w ok =
    let a = ascending_tail 0 x xs ok.order in
    record { order = ascending-from (suc x) 0 xs (omega arith) a; there = later-there at x v w xs ok.there.1; room = later-room at x v w xs a ok.room.1 }

module _ (at : ℕ) (l w : List ℕ) (i : ℕ) (h : i < length l) (ok : Raisable at (drop i l) w) where
  here : Raisable at (get_or l i 0 ∷ drop (i + 1) l) w
  here = rw (← head_tail l i 0 h) ok

  pub raise_there : at + get_or l i 0 < length w
  raise_there = here.there.0

  pub raise_room : get_or w (at + get_or l i 0) 0 < 4294967295
  raise_room = here.room.0

  pub raise_on : (v : ℕ) → Raisable at (drop (i + 1) l) (set w (at + get_or l i 0) v)
  raise_on v = raisable_tail at (get_or l i 0) v (drop (i + 1) l) w here

  pub raise_turn : raise_each at (drop (i + 1) l) (set w (at + get_or l i 0) (get_or w (at + get_or l i 0) 0 + 1)) ≡ raise_each at (drop i l) w
  raise_turn = sym (ap (λ (z : List ℕ). raise_each at z w) (head_tail l i 0 h) ∙ raise-first at (get_or l i 0) (drop (i + 1) l) w)

pub raise-end : (at : ℕ) (l w : List ℕ) (i : ℕ) → length l ≤ i → raise_each at (drop i l) w ≡ w
raise-end at l w i h = ap (λ (z : List ℕ). raise_each at z w) (drop_of_length-le l h) ∙ raise-none at w

-- ---- what stands beyond the counts

pub raise-kept : (at k : ℕ) (xs w : List ℕ) → All (λ x. x < k) xs → drop (at + k) (raise_each at xs w) ≡ drop (at + k) w
raise-kept at k [] w h = ap (drop (at + k)) (raise-none at w)
raise-kept at k (x ∷ xs) w h =
    ap (drop (at + k)) (raise-first at x xs w)
    ∙ raise-kept at k xs (set w (at + x) (get_or w (at + x) 0 + 1)) h.1
    ∙ drop-set-lt (at + k) w (at + x) (get_or w (at + x) 0 + 1) (omega (arith, h.0))
