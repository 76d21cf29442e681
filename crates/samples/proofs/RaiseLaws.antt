-- The counts of a register, raised at the places of flags.
-- Assumes nothing.
use mathlib.Core.Path.{◌≡◌, refl, sym, ap, ap₂, ◌∙◌}
use mathlib.Core.Bool.{Bool, true, false, cond}
use mathlib.Core.List.{List, [], ◌∷◌}
use Prim.Native.Nat.{ℕ, zero, suc, ◌+◌, ◌≤◌, ◌<◌}
use native.Mathlib.Nat.{zero-add}
use native.Mathlib.Omega.{arith}
use lib.ListN.{length, take, drop, get_or, set, length-set, length-drop}
use lib.Dec.{eqb}
use lib.Seq.{drop-set-lt, get_or-set_same, get_or-set_other, ext_get_or, get_or-take, get_or-drop, length-take-le, take-length}
use borrow.Author.Tests.{eqb-true, eqb-false, ltb-true}
use Rattle.model.specs.Lists.{all, pair_up, as_bit}
use Rattle.model.proofs.Booleans.{and_left, and_right}
use Rattle.model.proofs.Readers.{All}
use Rattle.model.proofs.Lists.{head_tail}
use Rattle.arrays.specs.Put.{put}
use Rattle.arrays.proofs.PutLaws.{put-nil, put-cons}
use Rattle.places.specs.Places.{ascending, is_set, places_from}
use Rattle.places.specs.Raises.{raise_each, Raisable}
use Rattle.places.proofs.RaiseLaws.{raise-first, raise-kept}
use Rattle.samples.specs.Adds.{add_hits, has_room, all_room}
use Rattle.samples.specs.Writes.{Countable}

-- ---- the places of flags

-- the flags that are left at the n-th
abbrev risen : ℕ → ℕ → List ℕ → List ℕ → List ℕ
risen at n fs w = add_hits is_set fs (take (length fs) (drop (at + n) w))

one_more : (at n f : ℕ) (fs w : List ℕ) → at + n < length w → risen at n (f ∷ fs) w ≡ (as_bit (is_set f) + get_or w (at + n) 0) ∷ risen at (suc n) fs w
one_more at n f fs w h =
    let e : at + n + 1 ≡ at + suc n = omega arith in
    ap (λ (z : List ℕ). add_hits is_set (f ∷ fs) (take (suc (length fs)) z)) (head_tail w (at + n) 0 h ∙ ap (λ (m : ℕ). get_or w (at + n) 0 ∷ drop m w) e)
    ∙ (unfold add_hits pair_up in refl)

no_flag : (at n : ℕ) (w : List ℕ) → raise_each at [] w ≡ put (at + n) (risen at n [] w) w
unfolding raise_each add_hits pair_up
no_flag at n w = sym (put-nil (at + n) w)

-- a count that is written as it was
set_self : (w : List ℕ) (i : ℕ) → i < length w → set w i (get_or w i 0) ≡ w
set_self w i h = ext_get_or 0 (set w i (get_or w i 0)) w (simp length-set) (λ j k. go j (eqb j i) refl)
  where
    go : (j : ℕ) (b : Bool) → eqb j i ≡ b → get_or (set w i (get_or w i 0)) j 0 ≡ get_or w j 0
    go j true e = let z = eqb-true j i e in ap (λ (m : ℕ). get_or (set w i (get_or w i 0)) m 0) z ∙ get_or-set_same w i (get_or w i 0) 0 h ∙ ap (λ (m : ℕ). get_or w m 0) (sym z)
    go j false e = get_or-set_other w i j (get_or w i 0) 0 (eqb-false j i e)

-- the first of them: what the rest does to the count that is raised or not
first-flag : (at n : ℕ) (b : Bool) (fs w : List ℕ) → at + n < length w
    → ((v : ℕ) → raise_each at (places_from is_set (suc n) fs) (set w (at + n) v) ≡ put (at + suc n) (risen at (suc n) fs (set w (at + n) v)) (set w (at + n) v))
    → raise_each at (cond b (n ∷ places_from is_set (suc n) fs) (places_from is_set (suc n) fs)) w ≡ put (at + n + 1) (risen at (suc n) fs w) (set w (at + n) (as_bit b + get_or w (at + n) 0))
first-flag at n b fs w h ih = split b
  where
    e : at + suc n ≡ at + n + 1
    e = omega arith

    later : (v : ℕ) → raise_each at (places_from is_set (suc n) fs) (set w (at + n) v) ≡ put (at + n + 1) (risen at (suc n) fs w) (set w (at + n) v)
    later v = ih v ∙ ap₂ (λ (m : ℕ) (z : List ℕ). put m (add_hits is_set fs (take (length fs) z)) (set w (at + n) v)) e (drop-set-lt (at + suc n) w (at + n) v (omega arith))

    more : get_or w (at + n) 0 + 1 ≡ 1 + get_or w (at + n) 0
    more = omega arith

    kept : w ≡ set w (at + n) (0 + get_or w (at + n) 0)
    kept = sym (ap (set w (at + n)) (zero-add (get_or w (at + n) 0)) ∙ set_self w (at + n) h)

    split : (c : Bool) → raise_each at (cond c (n ∷ places_from is_set (suc n) fs) (places_from is_set (suc n) fs)) w ≡ put (at + n + 1) (risen at (suc n) fs w) (set w (at + n) (as_bit c + get_or w (at + n) 0))
    split true = raise-first at n (places_from is_set (suc n) fs) w ∙ ap (λ (v : ℕ). raise_each at (places_from is_set (suc n) fs) (set w (at + n) v)) more ∙ later (1 + get_or w (at + n) 0)
    split false = ap (raise_each at (places_from is_set (suc n) fs)) kept ∙ later (0 + get_or w (at + n) 0)

-- Where the flags are set, the counts rise.
pub raise-flags : (at n : ℕ) (fs w : List ℕ) → at + n + length fs ≤ length w → raise_each at (places_from is_set n fs) w ≡ put (at + n) (risen at n fs w) w
unfolding places_from
raise-flags at n [] w h = no_flag at n w
raise-flags at n (f ∷ fs) w h =
    first-flag at n (is_set f) fs w (omega arith) (λ v. raise-flags at (suc n) fs (set w (at + n) v) (simp length-set (omega arith)))
    ∙ put-cons (at + n) (as_bit (is_set f) + get_or w (at + n) 0) (risen at (suc n) fs w) w (omega arith)
    ∙ ap (λ (z : List ℕ). put (at + n) z w) (sym (one_more at n f fs w (omega arith)))

-- ---- after the sample word

room_at : (ns : List ℕ) (x : ℕ) → x < length ns → all_room ns ≡ true → get_or ns x 0 < 4294967295
unfolding all_room all
room_at [] x h e = absurd (omega arith)
room_at (n ∷ ns) zero h e = ltb-true n 4294967295 (and_left (has_room n) (all has_room ns) e)
room_at (n ∷ ns) (suc x) h e = room_at ns x (omega arith) (and_right (has_room n) (all has_room ns) e)

module _ (k p : ℕ) (w : List ℕ) (ok : Countable k p w) (v : ℕ) where
  first : List ℕ
  first = set w 1 v

  one_room : (x : ℕ) → x < k → get_or first (2 + x) 0 < 4294967295
  unfolding first
  one_room x h =
      let counts = take k (drop 2 w) in
      let long : length counts ≡ k = length-take-le k (drop 2 w) (simp length-drop (omega (arith, ok.there))) in
      let e : get_or (set w 1 v) (2 + x) 0 ≡ get_or counts x 0 = get_or-set_other w 1 (2 + x) v 0 (λ (z : 2 + x ≡ 1). omega arith) ∙ sym (get_or-take k (drop 2 w) x 0 h ∙ get_or-drop 2 w x 0) in
      omega (arith, e, room_at counts x (omega arith) ok.counts)

  each_there : (xs : List ℕ) → All (λ x. x < k) xs → All (λ x. 2 + x < length first) xs
  unfolding first
  each_there [] h = tt
  each_there (x ∷ xs) h = (simp length-set (omega (arith, ok.there, h.0)), each_there xs h.1)

  each_room : (xs : List ℕ) → All (λ x. x < k) xs → All (λ x. get_or first (2 + x) 0 < 4294967295) xs
  each_room [] h = tt
  each_room (x ∷ xs) h = (one_room x h.0, each_room xs h.1)

  pub raisable_first : (xs : List ℕ) → ascending 0 xs ≡ true → All (λ x. x < k) xs → Raisable 2 xs (set w 1 v)
  unfolding first
  raisable_first xs a h = record { order = a; there = each_there xs h; room = each_room xs h }

-- the counts that flags of their places raise
pub raised-flags : (k : ℕ) (fs xs w w₁ : List ℕ) → 2 + k ≤ length w → length fs ≡ k → xs ≡ places_from is_set 0 fs → w₁ ≡ raise_each 2 xs w → w₁ ≡ put 2 (add_hits is_set (take k fs) (take k (drop 2 w))) w
raised-flags k fs xs w w₁ h e q r =
    r ∙ ap (λ (l : List ℕ). raise_each 2 l w) q ∙ raise-flags 2 0 fs w (omega arith)
    ∙ ap₂ (λ (l : List ℕ) (n : ℕ). put 2 (add_hits is_set l (take n (drop 2 w))) w) (sym (ap (λ (n : ℕ). take n fs) (sym e) ∙ take-length fs)) e

-- ---- what stands beyond the counts

module _ (k p : ℕ) (w : List ℕ) (ok : Countable k p w) (v : ℕ) (xs w₁ : List ℕ) (below : All (λ x. x < k) xs) (e : w₁ ≡ raise_each 2 xs (set w 1 v)) where
  pub unknowns_room : all_room (take p (drop (2 + k) w₁)) ≡ true
  unknowns_room = ap (λ (l : List ℕ). all_room (take p l)) (ap (drop (2 + k)) e ∙ raise-kept 2 k xs (set w 1 v) below ∙ drop-set-lt (2 + k) w 1 v (omega arith)) ∙ ok.unknowns
