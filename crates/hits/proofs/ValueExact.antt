-- The places of a point's value and auto counters that are hit: those of its cover bins that are hit, or else of its plain bins.
-- Assumes nothing.
use mathlib.Core.Path.{◌≡◌, refl, sym, ap, ap₂, ◌∙◌, subst}
use mathlib.Core.Bool.{Bool, true, false, not, ◌&&◌, cond}
use mathlib.Core.List.{List, [], ◌∷◌, ◌++◌, map, append-nil}
use Prim.Native.Nat.{ℕ, suc, ◌+◌, ◌<◌}
use native.Mathlib.Omega.{arith}
use lib.Dec.{eqb}
use lib.ListN.{length, get_or, drop, length-take}
use lib.Seq.{get_or-take, get_or-drop, drop-drop}
use borrow.Author.Tests.{eqb-true}
use Rattle.model.specs.Lists.{up_from}
use Rattle.model.specs.Table.{Kind, cover, ignore, illegal, default, ValueBin, Table, no_value_bin}
use Rattle.model.specs.Values.{in_ranges, bin_count}
use Rattle.model.specs.Counters.{CoverBin, auto, listed, Counter, value_bin, default_bin, illegal_bin, transition, illegal_transition, cross_bin, illegal_cross, product, point_at, value_bin_at, listed_value, has_auto, auto_count, bin_counters, value_counters, auto_counters, transition_counters, point_counters, cover_bins}
use Rattle.model.specs.Sampling.{known, guard_true, reading, is_in, Stretches, cover_hit, hits}
use Rattle.model.specs.Register.{run_stretches}
use Rattle.model.proofs.Readers.{All, all_map, all_both}
use Rattle.model.proofs.Booleans.{false-true}
use Rattle.model.proofs.Lists.{map-all}
use Rattle.model.proofs.Limits.{covers-append, no-covers}
use Rattle.arrays.specs.Flat.{covers, point_start}
use Rattle.places.specs.Places.{place_if, places_from, is_cover_counter, cover_places, hit_parts, is_plain, plain_places}
use Rattle.places.proofs.PlaceLaws.{places-append, places-agree, places-none, places-below}
use Rattle.points.proofs.Counted.{TransitionOf, all_transitions}
use Rattle.hits.specs.Places.{value_places, PlacesOf, PlainsOf, elements_at}
use Rattle.hits.specs.Plains.{plain_kind, is_plain_bin, plain_count, plain_holds, plain_hit, plain_hits}
use Rattle.hits.proofs.Own.{OwnCover, OwnCounter, own_counters, covers-all, Covered, covered, illegal-off, default-off}

-- ---- elements of which a test is true

no_place : {A : Type 0} (f : A → Bool) (n : ℕ) (xs : List A) → length (places_from f n xs) ≡ 0 → All (λ x. f x ≡ false) xs
unfolding places_from
no_place f n [] e = tt
no_place f n (x ∷ xs) e = go (f x) refl e (no_place f (suc n) xs)
  where
    go : (b : Bool) → f x ≡ b → length (cond b (n ∷ places_from f (suc n) xs) (places_from f (suc n) xs)) ≡ 0 → (length (places_from f (suc n) xs) ≡ 0 → All (λ y. f y ≡ false) xs) → (f x ≡ false) × All (λ y. f y ≡ false) xs
    go true z e k = absurd (omega arith)
    go false z e k = (z, k e)

some-place : {A : Type 0} (P : A → Type 0) (R : Type 0) (f : A → Bool) → ((x : A) → P x → f x ≡ true → R) → (n : ℕ) (xs : List A) → All P xs → 0 < length (places_from f n xs) → R
unfolding places_from
some-place P R f k n [] h e = absurd (omega arith)
some-place P R f k n (x ∷ xs) h e = go (f x) refl e (some-place P R f k (suc n) xs h.1)
  where
    go : (b : Bool) → f x ≡ b → 0 < length (cond b (n ∷ places_from f (suc n) xs) (places_from f (suc n) xs)) → (0 < length (places_from f (suc n) xs) → R) → R
    go true z e r = k x h.0 z
    go false z e r = r e

-- ---- where only cover bins are hit

abbrev Quiet : (Counter → Bool) → Counter → Type 0
Quiet h (value_bin c) = Unit {0}
Quiet h (default_bin b) = h (default_bin b) ≡ false
Quiet h (illegal_bin b) = h (illegal_bin b) ≡ false
Quiet h (transition b) = h (transition b) ≡ false
Quiet h (illegal_transition b) = h (illegal_transition b) ≡ false
Quiet h (cross_bin c i) = h (cross_bin c i) ≡ false
Quiet h (illegal_cross c i) = h (illegal_cross c i) ≡ false
Quiet h (product c cs) = h (product c cs) ≡ false

module _ (h : Counter → Bool) (ps : List ℕ) where
  found_cover : (b : Bool) (n j : ℕ) (xs ks : List ℕ) → xs ≡ elements_at ps ks → get_or ps j 0 ≡ n → cond b (n ∷ xs) xs ≡ elements_at ps (cond b (j ∷ ks) ks)
  unfolding elements_at
  found_cover true n j xs ks e z = ap₂ ◌∷◌ (sym z) e
  found_cover false n j xs ks e z = e

  found_other : (c : Counter) (n : ℕ) (cs : List Counter) (whole : List ℕ) → h c ≡ false → places_from h (suc n) cs ≡ whole → cond (h c) (n ∷ places_from h (suc n) cs) (places_from h (suc n) cs) ≡ whole
  found_other c n cs whole e z = ap (λ (b : Bool). cond b (n ∷ places_from h (suc n) cs) (places_from h (suc n) cs)) e ∙ z

  first_of : (j n : ℕ) (xs : List ℕ) → drop j ps ≡ n ∷ xs → get_or ps j 0 ≡ n
  first_of j n xs e = ap (λ (i : ℕ). get_or ps i 0) (let z : j ≡ j + 0 = omega arith in z) ∙ sym (get_or-drop j ps 0 0) ∙ ap (λ (l : List ℕ). get_or l 0 0) e

  rest_of : (j n : ℕ) (xs : List ℕ) → drop j ps ≡ n ∷ xs → drop (suc j) ps ≡ xs
  rest_of j n xs e = ap (λ (i : ℕ). drop i ps) (let z : suc j ≡ j + 1 = omega arith in z) ∙ sym (drop-drop 1 j ps) ∙ ap (drop 1) e

  found_places : (cs : List Counter) (n j : ℕ) → drop j ps ≡ places_from is_cover_counter n cs → All (Quiet h) cs → places_from h n cs ≡ elements_at ps (places_from (λ c. h (value_bin c)) j (cover_bins cs))
  unfolding places_from cover_bins
  found_places [] n j e q = unfold elements_at in refl
  found_places (value_bin c ∷ cs) n j e q = found_cover (h (value_bin c)) n j _ _ (found_places cs (suc n) (suc j) (rest_of j n _ e) q.1) (first_of j n _ e)
  found_places (default_bin b ∷ cs) n j e q = found_other (default_bin b) n cs _ q.0 (found_places cs (suc n) j e q.1)
  found_places (illegal_bin b ∷ cs) n j e q = found_other (illegal_bin b) n cs _ q.0 (found_places cs (suc n) j e q.1)
  found_places (transition b ∷ cs) n j e q = found_other (transition b) n cs _ q.0 (found_places cs (suc n) j e q.1)
  found_places (illegal_transition b ∷ cs) n j e q = found_other (illegal_transition b) n cs _ q.0 (found_places cs (suc n) j e q.1)
  found_places (cross_bin c i ∷ cs) n j e q = found_other (cross_bin c i) n cs _ q.0 (found_places cs (suc n) j e q.1)
  found_places (illegal_cross c i ∷ cs) n j e q = found_other (illegal_cross c i) n cs _ q.0 (found_places cs (suc n) j e q.1)
  found_places (product c ds ∷ cs) n j e q = found_other (product c ds) n cs _ q.0 (found_places cs (suc n) j e q.1)

-- ---- the lists of a point are those of its value and auto counters

abbrev values_of : Table → ℕ → List Counter
values_of t p = value_counters t p 0 t.value_bins ++ auto_counters t p

module _ (t : Table) (p : ℕ) where
  covers_are : covers t p ≡ cover_bins (values_of t p)
  unfolding covers point_counters
  covers_are =
      covers-append (values_of t p) (transition_counters p 0 t.transition_bins)
      ∙ ap (cover_bins (values_of t p) ++◌) (no-covers p 0 t.transition_bins) ∙ append-nil (cover_bins (values_of t p))

  only_values : (f : Counter → Bool) → ((c : Counter) → TransitionOf t p c → f c ≡ false) → places_from f (point_start t p) (point_counters t p) ≡ places_from f (point_start t p) (values_of t p)
  unfolding point_counters
  only_values f h =
      let n = point_start t p in
      let ts = transition_counters p 0 t.transition_bins in
      places-append f n (values_of t p) ts
      ∙ ap (places_from f n (values_of t p) ++◌) (places-none f (n + length (values_of t p)) ts (all_map (TransitionOf t p) (λ c. f c ≡ false) h ts (all_transitions t p)))
      ∙ append-nil (places_from f n (values_of t p))

  no_cover : (c : Counter) → TransitionOf t p c → is_cover_counter c ≡ false
  no_cover (value_bin c) e = absurd e
  no_cover (default_bin b) e = refl
  no_cover (illegal_bin b) e = refl
  no_cover (transition b) e = refl
  no_cover (illegal_transition b) e = refl
  no_cover (cross_bin c i) e = refl
  no_cover (illegal_cross c i) e = refl
  no_cover (product c cs) e = refl

  no_plain : (c : Counter) → TransitionOf t p c → is_plain c ≡ false
  no_plain (value_bin c) e = refl
  no_plain (default_bin b) e = absurd e
  no_plain (illegal_bin b) e = absurd e
  no_plain (transition b) e = refl
  no_plain (illegal_transition b) e = refl
  no_plain (cross_bin c i) e = refl
  no_plain (illegal_cross c i) e = refl
  no_plain (product c cs) e = refl

  plain_values : plain_places t p ≡ places_from is_plain (point_start t p) (values_of t p)
  unfolding plain_places
  plain_values = only_values is_plain no_plain

-- ---- cover bins are hit

module _ (t : Table) (w : List ℕ) (p : ℕ) (m : Stretches) where
  quiet : Covered t w p → (c : Counter) → OwnCounter t p c → Quiet (hits t w m) c
  quiet h (value_bin c) own = tt
  quiet h (default_bin b) own = default-off t w p m h b own
  quiet h (illegal_bin b) own = illegal-off t w p m h b own
  quiet h (transition b) own = absurd own
  quiet h (illegal_transition b) own = absurd own
  quiet h (cross_bin c i) own = absurd own
  quiet h (illegal_cross c i) own = absurd own
  quiet h (product c cs) own = absurd own

  found_here : 0 < length (hit_parts t w p) → places_from (hits t w m) (point_start t p) (values_of t p) ≡ elements_at (cover_places t p) (hit_parts t w p)
  unfolding hit_parts cover_places hits
  found_here e =
      found_places (hits t w m) (cover_places t p) (values_of t p) (point_start t p) 0 (only_values t p is_cover_counter (no_cover t p))
      (all_map (OwnCounter t p) (Quiet (hits t w m)) (quiet some) (values_of t p) (own_counters t p))
      ∙ ap (λ (cs : List CoverBin). elements_at (cover_places t p) (places_from (cover_hit t w) 0 cs)) (sym (covers_are t p))
    where
      owned : All (OwnCover t p) (covers t p)
      owned = rw (covers_are t p) (covers-all (OwnCover t p) (OwnCounter t p) (λ c x. x) (values_of t p) (own_counters t p))

      some : Covered t w p
      some = some-place (OwnCover t p) (Covered t w p) (cover_hit t w) (covered t w p) 0 (covers t p) owned e

-- ---- no cover bin is hit

abbrev NoCover : (CoverBin → Bool) → Counter → Type 0
NoCover f (value_bin c) = f c ≡ false
NoCover f (default_bin b) = Unit {0}
NoCover f (illegal_bin b) = Unit {0}
NoCover f (transition b) = Unit {0}
NoCover f (illegal_transition b) = Unit {0}
NoCover f (cross_bin c i) = Unit {0}
NoCover f (illegal_cross c i) = Unit {0}
NoCover f (product c cs) = Unit {0}

all-no_cover : (f : CoverBin → Bool) (cs : List Counter) → All (λ c. f c ≡ false) (cover_bins cs) → All (NoCover f) cs
unfolding cover_bins
all-no_cover f [] h = tt
all-no_cover f (value_bin c ∷ cs) h = (h.0, all-no_cover f cs h.1)
all-no_cover f (default_bin b ∷ cs) h = (tt, all-no_cover f cs h)
all-no_cover f (illegal_bin b ∷ cs) h = (tt, all-no_cover f cs h)
all-no_cover f (transition b ∷ cs) h = (tt, all-no_cover f cs h)
all-no_cover f (illegal_transition b ∷ cs) h = (tt, all-no_cover f cs h)
all-no_cover f (cross_bin c i ∷ cs) h = (tt, all-no_cover f cs h)
all-no_cover f (illegal_cross c i ∷ cs) h = (tt, all-no_cover f cs h)
all-no_cover f (product c ds ∷ cs) h = (tt, all-no_cover f cs h)

all_left : {A : Type 0} (P : A → Type 0) (xs ys : List A) → All P (xs ++ ys) → All P xs
all_left P [] ys h = tt
all_left P (x ∷ xs) ys h = (h.0, all_left P xs ys h.1)

all_right : {A : Type 0} (P : A → Type 0) (xs ys : List A) → All P (xs ++ ys) → All P ys
all_right P [] ys h = h
all_right P (x ∷ xs) ys h = all_right P xs ys h.1

plain_row : (g : ℕ → CoverBin) (ks : List ℕ) → All (λ c. is_plain c ≡ false) (map (λ k. value_bin (g k)) ks)
plain_row g [] = tt
plain_row g (k ∷ ks) = (refl, plain_row g ks)

-- the places of some elements stand in an array from j on
abbrev StandAt : List ℕ → ℕ → List ℕ → Type 0
StandAt ps j qs = (i : ℕ) → i < length qs → get_or ps (j + i) 0 ≡ get_or qs i 0

stand_on : (ps : List ℕ) (j n : ℕ) (y : Bool) (qs : List ℕ) → StandAt ps j (place_if y n ++ qs) → StandAt ps (j + cond y 1 0) qs
stand_on ps j n true qs h i k = ap (λ (x : ℕ). get_or ps x 0) (let z : j + 1 + i ≡ j + suc i = omega arith in z) ∙ h (suc i) (omega arith)
stand_on ps j n false qs h i k = ap (λ (x : ℕ). get_or ps x 0) (let z : j + 0 + i ≡ j + i = omega arith in z) ∙ h i k

stand-here : (ps : List ℕ) (j n : ℕ) (y : Bool) (qs : List ℕ) → StandAt ps j (place_if y n ++ qs) → (z : Bool) → place_if (y && z) n ≡ place_if (y && z) (get_or ps j 0)
stand-here ps j n true qs h z = ap (place_if z) (sym (ap (λ (x : ℕ). get_or ps x 0) (let q : j ≡ j + 0 = omega arith in q) ∙ h 0 (omega arith)))
stand-here ps j n false qs h z = refl

module _ (t : Table) (w : List ℕ) (p : ℕ) (m : Stretches) where
  off_row : (g : ℕ → CoverBin) (ks : List ℕ) → All (NoCover (cover_hit t w)) (map (λ k. value_bin (g k)) ks) → All (λ c. hits t w m c ≡ false) (map (λ k. value_bin (g k)) ks)
  unfolding hits
  off_row g [] h = tt
  off_row g (k ∷ ks) h = (h.0, off_row g ks h.1)

  bin_plains : (b n x : ℕ) (c : Bool) (k : Kind) → places_from is_plain n (cond c (bin_counters b k x) []) ≡ place_if (c && plain_kind k) n
  unfolding places_from
  bin_plains b n x true cover = places-none is_plain n (map (λ k. value_bin (listed b k)) (up_from 0 x)) (plain_row (listed b) (up_from 0 x))
  bin_plains b n x true ignore = refl
  bin_plains b n x true illegal = refl
  bin_plains b n x true default = refl
  bin_plains b n x false k = refl

  autos_off : (f : Counter → Bool) → ((g : ℕ → CoverBin) (ks : List ℕ) → All (NoCover (cover_hit t w)) (map (λ k. value_bin (g k)) ks) → All (λ c. f c ≡ false) (map (λ k. value_bin (g k)) ks)) → All (NoCover (cover_hit t w)) (auto_counters t p)
      → All (λ c. f c ≡ false) (auto_counters t p)
  autos_off f row = go (has_auto t p)
    where
      go : (c : Bool) → All (NoCover (cover_hit t w)) (cond c (map (λ k. value_bin (auto p k)) (up_from 0 (auto_count (point_at t p)))) []) → All (λ c. f c ≡ false) (cond c (map (λ k. value_bin (auto p k)) (up_from 0 (auto_count (point_at t p)))) [])
      go true h = row (auto p) (up_from 0 (auto_count (point_at t p))) h
      go false h = tt

  -- of the value bins alone
  no_autos : (f : Counter → Bool) (n : ℕ) → All (λ c. f c ≡ false) (auto_counters t p) → places_from f n (values_of t p) ≡ places_from f n (value_counters t p 0 t.value_bins)
  no_autos f n h =
      let vs = value_counters t p 0 t.value_bins in
      places-append f n vs (auto_counters t p) ∙ ap (places_from f n vs ++◌) (places-none f (n + length vs) (auto_counters t p) h) ∙ append-nil (places_from f n vs)

  module _ (v : ℕ) (e : reading t w p ≡ known v) (ps : List ℕ) where
    illegal-is : (b : ℕ) (u : ValueBin) → value_bin_at t b ≡ u → u.point ≡ p → hits t w m (illegal_bin b) ≡ (guard_true w u.guard && in_ranges u.ranges v)
    unfolding hits
    illegal-is b u z y =
        ap₂ ◌&&◌ (ap (λ (q : ValueBin). guard_true w q.guard) z)
        (ap (is_in (in_ranges (value_bin_at t b).ranges)) (ap (reading t w) (ap (λ (q : ValueBin). q.point) z ∙ y) ∙ e) ∙ ap (λ (q : ValueBin). in_ranges q.ranges v) z)

    default-is : (b : ℕ) (u : ValueBin) → value_bin_at t b ≡ u → u.point ≡ p → hits t w m (default_bin b) ≡ (guard_true w u.guard && not (listed_value t p v))
    unfolding hits
    default-is b u z y =
        ap₂ ◌&&◌ (ap (λ (q : ValueBin). guard_true w q.guard) z)
        (ap (is_in (λ a. not (listed_value t (value_bin_at t b).point a))) (ap (reading t w) (ap (λ (q : ValueBin). q.point) z ∙ y) ∙ e)
        ∙ ap (λ (q : ℕ). not (listed_value t q v)) (ap (λ (q : ValueBin). q.point) z ∙ y))

    bin-places : (b n x : ℕ) (u : ValueBin) → value_bin_at t b ≡ u → (c : Bool) → eqb u.point p ≡ c → (k : Kind) → All (NoCover (cover_hit t w)) (cond c (bin_counters b k x) [])
        → places_from (hits t w m) n (cond c (bin_counters b k x) []) ≡ place_if ((c && plain_kind k) && (guard_true w u.guard && plain_holds k u.ranges v (listed_value t p v))) n
    unfolding places_from
    bin-places b n x u z false y k h = refl
    bin-places b n x u z true y cover h = places-none (hits t w m) n (map (λ k. value_bin (listed b k)) (up_from 0 x)) (off_row (listed b) (up_from 0 x) h)
    bin-places b n x u z true y ignore h = refl
    bin-places b n x u z true y illegal h = ap (λ (q : Bool). place_if q n) (illegal-is b u z (eqb-true u.point p y))
    bin-places b n x u z true y default h = ap (λ (q : Bool). place_if q n) (default-is b u z (eqb-true u.point p y))

    plains-from : (us : List ValueBin) (b n j : ℕ) → ((i : ℕ) → i < length us → get_or us i no_value_bin ≡ value_bin_at t (b + i)) → All (NoCover (cover_hit t w)) (value_counters t p b us) → StandAt ps j (places_from is_plain n (value_counters t p b us))
        → places_from (hits t w m) n (value_counters t p b us) ≡ plain_hits w p v (listed_value t p v) ps j us
    unfolding value_counters plain_hits plain_hit
    plains-from [] b n j h off at = unfold places_from in refl
    plains-from (u ∷ us) b n j h off at =
        places-append (hits t w m) n mine (value_counters t p (suc b) us)
        ∙ ap₂ ◌++◌
        (bin-places b n _ u here (eqb u.point p) refl u.kind (all_left (NoCover (cover_hit t w)) mine (value_counters t p (suc b) us) off)
        ∙ stand-here ps j n (is_plain_bin p u) _ stands (guard_true w u.guard && plain_holds u.kind u.ranges v (listed_value t p v)))
        (plains-from us (suc b) (n + length mine) (j + plain_count p u) (λ i k. h (suc i) (omega arith) ∙ ap (value_bin_at t) (let z : b + suc i ≡ suc b + i = omega arith in z))
        (all_right (NoCover (cover_hit t w)) mine (value_counters t p (suc b) us) off) (stand_on ps j n (is_plain_bin p u) _ stands))
      where
        mine : List Counter
        mine = cond (eqb u.point p) (bin_counters b u.kind (bin_count (point_at t p) u.form u.ranges)) []

        here : value_bin_at t b ≡ u
        here = sym (h 0 (omega arith) ∙ ap (value_bin_at t) (let z : b + 0 ≡ b = omega arith in z))

        split : places_from is_plain n (mine ++ value_counters t p (suc b) us) ≡ place_if (is_plain_bin p u) n ++ places_from is_plain (n + length mine) (value_counters t p (suc b) us)
        split = places-append is_plain n mine (value_counters t p (suc b) us) ∙ ap (◌++ places_from is_plain (n + length mine) (value_counters t p (suc b) us)) (bin_plains b n (bin_count (point_at t p) u.form u.ranges) (eqb u.point p) u.kind)

        stands : StandAt ps j (place_if (is_plain_bin p u) n ++ places_from is_plain (n + length mine) (value_counters t p (suc b) us))
        stands i k = at i (omega (arith, ap length split)) ∙ ap (λ (l : List ℕ). get_or l i 0) split

-- ---- the places of the point

module _ (t : Table) (w : List ℕ) (p : ℕ) where
  -- the cover bins that are hit
  pub value_found : (a : List ℕ) → PlacesOf t p a → 0 < length (hit_parts t w p) → value_places t w p ≡ elements_at a (hit_parts t w p)
  unfolding value_places PlacesOf elements_at hit_parts
  value_found a h e =
      found_here t w p (run_stretches []) e
      ∙ map-all (λ k. k < 0 + length (covers t p)) (λ k. get_or (cover_places t p) k 0) (λ k. get_or a k 0) (λ k i. sym (h k (omega arith))) (hit_parts t w p) (places-below (cover_hit t w) 0 (covers t p))

  -- or the plain bins
  module _ (none : length (hit_parts t w p) ≡ 0) where
    uncovered : All (NoCover (cover_hit t w)) (values_of t p)
    unfolding hit_parts
    uncovered = all-no_cover (cover_hit t w) (values_of t p) (no_place (cover_hit t w) 0 (cover_bins (values_of t p)) (ap (λ (cs : List CoverBin). length (places_from (cover_hit t w) 0 cs)) (sym (covers_are t p)) ∙ none))

    no-auto-hit : All (NoCover (cover_hit t w)) (auto_counters t p)
    no-auto-hit = all_right (NoCover (cover_hit t w)) (value_counters t p 0 t.value_bins) (auto_counters t p) uncovered

    plains-are : plain_places t p ≡ places_from is_plain (point_start t p) (value_counters t p 0 t.value_bins)
    plains-are = plain_values t p ∙ no_autos t w p (run_stretches []) is_plain (point_start t p) (autos_off t w p (run_stretches []) is_plain (λ g ks h. plain_row g ks) no-auto-hit)

    plains-stand : (a : List ℕ) → PlainsOf t p a → StandAt a 0 (plain_places t p)
    unfolding PlainsOf
    plains-stand a e i k =
        ap (λ (x : ℕ). get_or a x 0) (let z : 0 + i ≡ i = omega arith in z) ∙ sym (get_or-take (length (plain_places t p)) a i 0 k) ∙ ap (λ (l : List ℕ). get_or l i 0) e

    pub value-plain : (v : ℕ) → reading t w p ≡ known v → (a : List ℕ) → PlainsOf t p a → value_places t w p ≡ plain_hits w p v (listed_value t p v) a 0 t.value_bins
    unfolding value_places
    value-plain v e a h =
        no_autos t w p (run_stretches []) (hits t w (run_stretches [])) (point_start t p) (autos_off t w p (run_stretches []) (hits t w (run_stretches [])) (off_row t w p (run_stretches [])) no-auto-hit)
        ∙ plains-from t w p (run_stretches []) v e a t.value_bins 0 (point_start t p) 0 (λ i k. ap (value_bin_at t) (let z : i ≡ 0 + i = omega arith in z))
        (all_left (NoCover (cover_hit t w)) (value_counters t p 0 t.value_bins) (auto_counters t p) uncovered)
        (subst (StandAt a 0) plains-are (plains-stand a h))

    unhit : (c : Counter) → OwnCounter t p c → (NoCover (cover_hit t w) c × (is_plain c ≡ false)) → hits t w (run_stretches []) c ≡ false
    unfolding hits
    unhit (value_bin c) own h = h.0
    unhit (default_bin b) own h = absurd (false-true (sym h.1))
    unhit (illegal_bin b) own h = absurd (false-true (sym h.1))
    unhit (transition b) own h = absurd own
    unhit (illegal_transition b) own h = absurd own
    unhit (cross_bin c i) own h = absurd own
    unhit (illegal_cross c i) own h = absurd own
    unhit (product c cs) own h = absurd own

    -- the point has none
    pub value-bare : (a : List ℕ) → PlainsOf t p a → length a ≡ 0 → value_places t w p ≡ []
    unfolding value_places PlainsOf
    value-bare a h e =
        places-none (hits t w (run_stretches [])) (point_start t p) (values_of t p)
        (all_both (OwnCounter t p) (λ c. NoCover (cover_hit t w) c × (is_plain c ≡ false)) (λ c. hits t w (run_stretches []) c ≡ false) unhit (values_of t p) (own_counters t p)
        (all_both (NoCover (cover_hit t w)) (λ c. is_plain c ≡ false) (λ c. NoCover (cover_hit t w) c × (is_plain c ≡ false)) (λ c x y. (x, y)) (values_of t p) uncovered bare))
      where
        few : length (places_from is_plain (point_start t p) (values_of t p)) ≡ 0
        few = ap length (sym (plain_values t p)) ∙ omega (arith, ap length h, length-take (length (plain_places t p)) a)

        bare : All (λ c. is_plain c ≡ false) (values_of t p)
        bare = no_place is_plain (point_start t p) (values_of t p) few

-- whatever the stretches
pub any_stretch : (t : Table) (w : List ℕ) (p : ℕ) (m : Stretches) → value_places t w p ≡ places_from (hits t w m) (point_start t p) (value_counters t p 0 t.value_bins ++ auto_counters t p)
unfolding value_places
any_stretch t w p m = places-agree (hits t w (run_stretches [])) (hits t w m) (point_start t p) (values_of t p) (all_map (OwnCounter t p) (λ c. hits t w (run_stretches []) c ≡ hits t w m c) same (values_of t p) (own_counters t p))
  where
    same : (c : Counter) → OwnCounter t p c → hits t w (run_stretches []) c ≡ hits t w m c
    same (value_bin c) own = unfold hits in refl
    same (default_bin b) own = unfold hits in refl
    same (illegal_bin b) own = unfold hits in refl
    same (transition b) own = absurd own
    same (illegal_transition b) own = absurd own
    same (cross_bin c i) own = absurd own
    same (illegal_cross c i) own = absurd own
    same (product c cs) own = absurd own
