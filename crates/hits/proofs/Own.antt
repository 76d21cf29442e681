-- What a point's value and auto counters are, and which of them a sample can hit together.
-- Assumes nothing.
use mathlib.Core.Path.{◌≡◌, refl, sym, ap, ap₂, ◌∙◌}
use mathlib.Core.Bool.{Bool, true, false, not, ◌&&◌, ◌||◌, cond, and-false}
use mathlib.Core.List.{List, [], ◌∷◌, ◌++◌, map}
use Prim.Native.Nat.{ℕ, zero, suc, ◌+◌, ◌*◌, ◌/◌, ◌<◌, max}
use native.Mathlib.Omega.{arith}
use lib.Dec.{eqb}
use lib.ListN.{length, get_or, take, drop}
use borrow.Author.Tests.{eqb-true, eq-eqb}
use Rattle.model.specs.Lists.{up_from, any, keep, concat_of, one_of}
use Rattle.model.specs.Table.{Point, Kind, cover, ignore, illegal, default, Form, single, per_value, fixed, Range, ValueBin, Table, is_cover, is_default, excludes, no_value_bin}
use Rattle.model.specs.Values.{values, in_range, in_ranges, distinct_values, listed_values, portion, bin_count, in_bin}
use Rattle.model.specs.Counters.{CoverBin, listed, auto, Counter, value_bin, default_bin, illegal_bin, transition, illegal_transition, cross_bin, illegal_cross, product, point_at, value_bin_at, excluded_value, listed_value, distributed, holds, has_auto, auto_count, bin_counters, value_counters, auto_counters, cover_bins}
use Rattle.model.specs.Sampling.{Reading, skipped, unknown, known, guard_true, reading, is_in, Stretches, cover_guard, cover_hit, hits}
use Rattle.model.proofs.Readers.{All, all_append}
use Rattle.model.proofs.Booleans.{false-true, and_left, and_right, or_right, or-false-left, or-false-right}
use Rattle.model.proofs.Lists.{all_row}

-- ---- the counters of a point

abbrev pub OwnBin : Table → ℕ → Kind → ℕ → Type 0
OwnBin t p k b = ((value_bin_at t b).point ≡ p) × ((value_bin_at t b).kind ≡ k)

abbrev pub OwnCover : Table → ℕ → CoverBin → Type 0
OwnCover t p (listed b k) = (value_bin_at t b).point ≡ p
OwnCover t p (auto q k) = (q ≡ p) × (has_auto t p ≡ true)

abbrev pub OwnCounter : Table → ℕ → Counter → Type 0
OwnCounter t p (value_bin c) = OwnCover t p c
OwnCounter t p (default_bin b) = OwnBin t p default b
OwnCounter t p (illegal_bin b) = OwnBin t p illegal b
OwnCounter t p (transition b) = ⊥
OwnCounter t p (illegal_transition b) = ⊥
OwnCounter t p (cross_bin c i) = ⊥
OwnCounter t p (illegal_cross c i) = ⊥
OwnCounter t p (product c cs) = ⊥

module _ (t : Table) (p : ℕ) where
  own_bin : (b : ℕ) (k : Kind) (n : ℕ) → OwnBin t p k b → All (OwnCounter t p) (bin_counters b k n)
  own_bin b cover n e = all_row (OwnCounter t p) (λ k. value_bin (listed b k)) 0 n (λ k lo hi. e.0)
  own_bin b ignore n e = tt
  own_bin b illegal n e = (e, tt)
  own_bin b default n e = (e, tt)

  own_values : (b : ℕ) (us : List ValueBin) → ((i : ℕ) → i < length us → get_or us i no_value_bin ≡ value_bin_at t (b + i)) → All (OwnCounter t p) (value_counters t p b us)
  unfolding value_counters
  own_values b [] h = tt
  own_values b (u ∷ us) h =
      all_append (OwnCounter t p) (cond (eqb u.point p) (bin_counters b u.kind (bin_count (point_at t p) u.form u.ranges)) []) (value_counters t p (suc b) us)
      (go (eqb u.point p) refl)
      (own_values (suc b) us (λ i k. h (suc i) (omega arith) ∙ ap (value_bin_at t) (let z : b + suc i ≡ suc b + i = omega arith in z)))
    where
      here : value_bin_at t b ≡ u
      here = sym (h 0 (omega arith) ∙ ap (value_bin_at t) (let z : b + 0 ≡ b = omega arith in z))

      go : (c : Bool) → eqb u.point p ≡ c → All (OwnCounter t p) (cond c (bin_counters b u.kind (bin_count (point_at t p) u.form u.ranges)) [])
      go true e = own_bin b u.kind _ (ap (λ (x : ValueBin). x.point) here ∙ eqb-true u.point p e, ap (λ (x : ValueBin). x.kind) here)
      go false e = tt

  own_autos : All (OwnCounter t p) (auto_counters t p)
  own_autos = go (has_auto t p) refl
    where
      go : (c : Bool) → has_auto t p ≡ c → All (OwnCounter t p) (cond c (map (λ k. value_bin (auto p k)) (up_from 0 (auto_count (point_at t p)))) [])
      go true e = all_row (OwnCounter t p) (λ k. value_bin (auto p k)) 0 (auto_count (point_at t p)) (λ k lo hi. (refl, e))
      go false e = tt

  pub own_counters : All (OwnCounter t p) (value_counters t p 0 t.value_bins ++ auto_counters t p)
  own_counters =
      all_append (OwnCounter t p) (value_counters t p 0 t.value_bins) (auto_counters t p)
      (own_values 0 t.value_bins (λ i k. ap (value_bin_at t) (let z : i ≡ 0 + i = omega arith in z))) own_autos

-- of the cover bins among some counters, and of the counters
pub covers-all : (P : CoverBin → Type 0) (Q : Counter → Type 0) → ((c : CoverBin) → Q (value_bin c) → P c) → (cs : List Counter) → All Q cs → All P (cover_bins cs)
unfolding cover_bins
covers-all P Q f [] h = tt
covers-all P Q f (value_bin c ∷ cs) h = (f c h.0, covers-all P Q f cs h.1)
covers-all P Q f (default_bin b ∷ cs) h = covers-all P Q f cs h.1
covers-all P Q f (illegal_bin b ∷ cs) h = covers-all P Q f cs h.1
covers-all P Q f (transition b ∷ cs) h = covers-all P Q f cs h.1
covers-all P Q f (illegal_transition b ∷ cs) h = covers-all P Q f cs h.1
covers-all P Q f (cross_bin c i ∷ cs) h = covers-all P Q f cs h.1
covers-all P Q f (illegal_cross c i ∷ cs) h = covers-all P Q f cs h.1
covers-all P Q f (product c ds ∷ cs) h = covers-all P Q f cs h.1

-- ---- a bin of a listed bin has only values that this lists

kept : (f : ℕ → Bool) (xs : List ℕ) → All (λ x. f x ≡ true) (keep f xs)
unfolding keep
kept f [] = tt
kept f (x ∷ xs) = go (f x) refl (kept f xs)
  where
    go : (b : Bool) → f x ≡ b → All (λ y. f y ≡ true) (keep f xs) → All (λ y. f y ≡ true) (cond b (x ∷ keep f xs) (keep f xs))
    go true e h = (e, h)
    go false e h = h

all_take : (P : ℕ → Type 0) (n : ℕ) (xs : List ℕ) → All P xs → All P (take n xs)
all_take P zero xs h = tt
all_take P (suc n) [] h = tt
all_take P (suc n) (x ∷ xs) h = (h.0, all_take P n xs h.1)

all_drop : (P : ℕ → Type 0) (n : ℕ) (xs : List ℕ) → All P xs → All P (drop n xs)
all_drop P zero xs h = h
all_drop P (suc n) [] h = tt
all_drop P (suc n) (x ∷ xs) h = all_drop P n xs h.1

one-all : (f : ℕ → Bool) (v : ℕ) (xs : List ℕ) → All (λ x. f x ≡ true) xs → one_of v xs ≡ true → f v ≡ true
unfolding one_of
one-all f v [] h e = absurd (false-true e)
one-all f v (x ∷ xs) h e = go (eqb v x) refl e (one-all f v xs h.1)
  where
    go : (b : Bool) → eqb v x ≡ b → (b || one_of v xs) ≡ true → (one_of v xs ≡ true → f v ≡ true) → f v ≡ true
    go true z e k = ap f (eqb-true v x z) ∙ h.0
    go false z e k = k e

all_weaker : (f g : ℕ → Bool) → ((x : ℕ) → f x ≡ true → g x ≡ true) → (xs : List ℕ) → All (λ x. f x ≡ true) xs → All (λ x. g x ≡ true) xs
all_weaker f g h [] a = tt
all_weaker f g h (x ∷ xs) a = (h x a.0, all_weaker f g h xs a.1)

or_left : (a b : Bool) → a ≡ true → (a || b) ≡ true
or_left a b e = ap (◌|| b) e

all_listed : (p : Point) (rs : List Range) → All (λ x. in_ranges rs x ≡ true) (listed_values p rs)
unfolding listed_values concat_of in_ranges
all_listed p [] = tt
all_listed p (r ∷ rs) =
    all_append (λ x. in_ranges (r ∷ rs) x ≡ true) (keep (in_range r) (values p)) (concat_of (λ r. keep (in_range r) (values p)) rs)
    (all_weaker (in_range r) (in_ranges (r ∷ rs)) (λ x e. or_left (in_range r x) (in_ranges rs x) e) (keep (in_range r) (values p)) (kept (in_range r) (values p)))
    (all_weaker (in_ranges rs) (in_ranges (r ∷ rs)) (λ x e. or_right (in_range r x) (in_ranges rs x) e) (concat_of (λ r. keep (in_range r) (values p)) rs) (all_listed p rs))

all-portion : (P : ℕ → Type 0) (n k : ℕ) (xs : List ℕ) → All P xs → All P (portion n k xs)
unfolding portion
all-portion P n k xs h =
    let each = max 1 (length xs / n) in
    go (eqb (suc k) n) each (drop (k * each) xs) (all_drop P (k * each) xs h)
  where
    go : (b : Bool) (m : ℕ) (ys : List ℕ) → All P ys → All P (cond b ys (take m ys))
    go true m ys a = a
    go false m ys a = all_take P m ys a

pub in-bin-listed : (p : Point) (f : Form) (rs : List Range) (k v : ℕ) → in_bin p f rs k v ≡ true → in_ranges rs v ≡ true
unfolding in_bin
in-bin-listed p single rs k v e = e
in-bin-listed p per_value rs k v e =
    one-all (in_ranges rs) v (take 1 (drop k (distinct_values p rs))) (all_take (λ x. in_ranges rs x ≡ true) 1 (drop k (distinct_values p rs)) (all_drop (λ x. in_ranges rs x ≡ true) k (distinct_values p rs) (unfold distinct_values in (kept (in_ranges rs) (values p))))) e
in-bin-listed p (fixed n) rs k v e = one-all (in_ranges rs) v (portion n k (listed_values p rs)) (all-portion (λ x. in_ranges rs x ≡ true) n k (listed_values p rs) (all_listed p rs)) e

-- ---- what a hit cover bin says of the reading

some-true : (f : ValueBin → Bool) (d : ValueBin) → f d ≡ false → (us : List ValueBin) (b : ℕ) → f (get_or us b d) ≡ true → any f us ≡ true
unfolding any
some-true f d n [] b e = absurd (false-true (sym n ∙ e))
some-true f d n (u ∷ us) zero e = or_left (f u) (any f us) e
some-true f d n (u ∷ us) (suc b) e = or_right (f u) (any f us) (some-true f d n us b e)

pub none_true : {A : Type 0} (f : A → Bool) (d : A) → f d ≡ false → (us : List A) → any f us ≡ false → (b : ℕ) → f (get_or us b d) ≡ false
unfolding any
none_true f d n [] e b = n
none_true f d n (u ∷ us) e zero = or-false-left (f u) (any f us) e
none_true f d n (u ∷ us) e (suc b) = none_true f d n us (or-false-right (f u) (any f us) e) b

-- The reading is a value that no ignore or illegal bin of the point lists. Some bin lists it, or the point has auto bins.
pub record Covered (t : Table) (w : List ℕ) (p : ℕ) : Type 0 where
  pub value : ℕ
  pub is : reading t w p ≡ known value
  pub left : excluded_value t p value ≡ false
  pub named : (listed_value t p value || has_auto t p) ≡ true

not_was : (b : Bool) → not b ≡ true → b ≡ false
not_was true e = absurd (false-true e)
not_was false e = refl

module _ (t : Table) (w : List ℕ) (p : ℕ) where
  in_known : (f : ℕ → Bool) (r : Reading) → is_in f r ≡ true → (v : ℕ) × (r ≡ known v) × (f v ≡ true)
  in_known f skipped e = absurd (false-true e)
  in_known f unknown e = absurd (false-true e)
  in_known f (known v) e = (v, refl, e)

  pub covered : (c : CoverBin) → OwnCover t p c → cover_hit t w c ≡ true → Covered t w p
  unfolding cover_hit holds
  covered (listed b k) own e =
      let h = in_known (holds t (listed b k)) (reading t w (value_bin_at t b).point) (and_right (guard_true w (cover_guard t (listed b k))) (is_in (holds t (listed b k)) (reading t w (value_bin_at t b).point)) e) in
      let v = h.0 in
      let d = and_left (distributed t (listed b k) v) (not (excluded_value t (value_bin_at t b).point v)) h.2 in
      let x = and_right (distributed t (listed b k) v) (not (excluded_value t (value_bin_at t b).point v)) h.2 in
      record {
        value = v;
        is = ap (reading t w) (sym own) ∙ h.1;
        left = ap (λ (q : ℕ). excluded_value t q v) (sym own) ∙ not_was (excluded_value t (value_bin_at t b).point v) x;
        named = or_left (listed_value t p v) (has_auto t p)
            (unfold listed_value in (some-true (λ u. eqb u.point p && in_ranges u.ranges v) no_value_bin (unfold in_ranges in (and-false (eqb 0 p))) t.value_bins b
            (ap₂ ◌&&◌ (eq-eqb (value_bin_at t b).point p own) (in-bin-listed (point_at t (value_bin_at t b).point) (value_bin_at t b).form (value_bin_at t b).ranges k v (unfold distributed in d)))));
      }
  covered (auto q k) own e =
      let h = in_known (holds t (auto q k)) (reading t w q) (and_right (guard_true w (cover_guard t (auto q k))) (is_in (holds t (auto q k)) (reading t w q)) e) in
      let v = h.0 in
      let x = and_right (distributed t (auto q k) v) (not (excluded_value t q v)) h.2 in
      record {
        value = v;
        is = ap (reading t w) (sym own.0) ∙ h.1;
        left = ap (λ (z : ℕ). excluded_value t z v) (sym own.0) ∙ not_was (excluded_value t q v) x;
        named = or_right (listed_value t p v) (has_auto t p) own.1;
      }

  -- then no other counter is hit
  module _ (m : Stretches) (h : Covered t w p) where
    v : ℕ
    v = h.value

    off : (a b : Bool) → b ≡ false → (a && b) ≡ false
    off a b e = ap (a &&◌) e ∙ and-false a

    pub illegal-off : (b : ℕ) → OwnBin t p illegal b → hits t w m (illegal_bin b) ≡ false
    unfolding hits v
    illegal-off b own =
        off (guard_true w (value_bin_at t b).guard) (is_in (in_ranges (value_bin_at t b).ranges) (reading t w (value_bin_at t b).point))
        (ap (is_in (in_ranges (value_bin_at t b).ranges)) (ap (reading t w) own.0 ∙ h.is)
        ∙ ap₂ (λ (x : Bool) (k : Kind). x && excludes k && in_ranges (value_bin_at t b).ranges h.value) (sym (eq-eqb (value_bin_at t b).point p own.0)) (sym own.1)
        ∙ none_true (λ u. eqb u.point p && excludes u.kind && in_ranges u.ranges h.value) no_value_bin (unfold in_ranges in (and-false (eqb 0 p && excludes ignore))) t.value_bins (unfold excluded_value in h.left) b)

    pub default-off : (b : ℕ) → OwnBin t p default b → hits t w m (default_bin b) ≡ false
    unfolding hits v
    default-off b own =
        off (guard_true w (value_bin_at t b).guard) (is_in (λ x. not (listed_value t (value_bin_at t b).point x)) (reading t w (value_bin_at t b).point))
        (ap (is_in (λ x. not (listed_value t (value_bin_at t b).point x))) (ap (reading t w) own.0 ∙ h.is)
        ∙ ap (λ (q : ℕ). not (listed_value t q h.value)) own.0
        ∙ go (listed_value t p h.value) (has_auto t p) refl h.named)
      where
        go : (x y : Bool) → has_auto t p ≡ y → (x || y) ≡ true → not x ≡ false
        go true y e n = refl
        go false true e n =
            let no = and_left (not (any (λ u. eqb u.point p && (is_cover u.kind || is_default u.kind)) t.value_bins)) (not (any (λ u. eqb u.point p && is_cover u.kind) t.transition_bins)) (unfold has_auto in e) in
            let z = none_true (λ u. eqb u.point p && (is_cover u.kind || is_default u.kind)) no_value_bin (and-false (eqb 0 p)) t.value_bins (not_was _ no) b in
            absurd (false-true (sym z ∙ ap₂ (λ (x : Bool) (k : Kind). x && (is_cover k || is_default k)) (eq-eqb (value_bin_at t b).point p own.0) own.1))
        go false false e n = absurd (false-true n)
