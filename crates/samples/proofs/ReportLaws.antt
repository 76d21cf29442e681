-- The report by lists of places is the report by flags.
-- Assumes nothing.
use mathlib.Core.Path.{◌≡◌, refl, sym, ap, ap₂, ◌∙◌}
use mathlib.Core.Bool.{Bool, true, false, ◌||◌, cond}
use mathlib.Core.List.{List, [], ◌∷◌, ◌++◌, map}
use Prim.Native.Nat.{ℕ, suc, ◌≤◌}
use native.Mathlib.Nat.{add-zero}
use native.Mathlib.Omega.{arith}
use lib.ListN.{length, length-map}
use borrow.Author.Tests.{ne_eqb}
use Rattle.model.specs.Lists.{one_of, as_bit}
use Rattle.model.specs.Table.{Table}
use Rattle.model.specs.Counters.{Counter, counters}
use Rattle.model.proofs.Readers.{All}
use Rattle.arrays.specs.Flat.{kind_of, kinds_of, hit_flags}
use Rattle.places.specs.Places.{is_set, of_kind, places_from, hit_places, illegal_places}
use Rattle.places.proofs.PlaceLaws.{one_of-places}
use Rattle.samples.specs.Adds.{reported, illegal_flags}
use Rattle.model.specs.Sampling.{Stretches, hits}
use Rattle.model.specs.Register.{illegal_total, all_lengths, run_stretches}
use Rattle.samples.specs.Listed.{hit_bits}
use Rattle.samples.specs.Writes.{runs_after, flags_after, report_of}
use Rattle.samples.proofs.FindLaws.{places_flagged}
use Rattle.samples.proofs.WriteLaws.{report-length}

-- places are not below the first
places-from : {A : Type 0} (f : A → Bool) (n : ℕ) (xs : List A) → All (λ k. n ≤ k) (places_from f n xs)
unfolding places_from
places-from f n [] = tt
places-from f n (x ∷ xs) = go (f x) (weaker (places_from f (suc n) xs) (places-from f (suc n) xs))
  where
    weaker : (l : List ℕ) → All (λ k. suc n ≤ k) l → All (λ k. n ≤ k) l
    weaker [] h = tt
    weaker (k ∷ ks) h = (omega (arith, h.0), weaker ks h.1)

    go : (b : Bool) → All (λ k. n ≤ k) (places_from f (suc n) xs) → All (λ k. n ≤ k) (cond b (n ∷ places_from f (suc n) xs) (places_from f (suc n) xs))
    go true h = (omega arith, h)
    go false h = h

-- a place below them all says nothing of them
bits-past : (n : ℕ) (ks hs : List ℕ) → All (λ k. suc n ≤ k) ks → hit_bits ks (n ∷ hs) ≡ hit_bits ks hs
unfolding hit_bits one_of
bits-past n [] hs h = refl
bits-past n (k ∷ ks) hs h = ap₂ ◌∷◌ (ap (λ (b : Bool). as_bit (b || one_of k hs)) (ne_eqb k n (λ (e : k ≡ n). omega (arith, h.0)))) (bits-past n ks hs h.1)

bits-first : (k : ℕ) (ks hs : List ℕ) → hit_bits (k ∷ ks) hs ≡ as_bit (one_of k hs) ∷ hit_bits ks hs
unfolding hit_bits
bits-first k ks hs = refl

places-cons : (n : ℕ) (c : Counter) (cs : List Counter)
    → places_from (λ x. of_kind 2 (kind_of x)) n (c ∷ cs) ≡ cond (of_kind 2 (kind_of c)) (n ∷ places_from (λ x. of_kind 2 (kind_of x)) (suc n) cs) (places_from (λ x. of_kind 2 (kind_of x)) (suc n) cs)
unfolding places_from
places-cons n c cs = refl

flags-cons : (k x : ℕ) (ks xs : List ℕ) → reported (of_kind 2 k) x ++ illegal_flags ks xs ≡ illegal_flags (k ∷ ks) (x ∷ xs)
unfolding illegal_flags
flags-cons k x ks xs = refl

module _ (f : Counter → Bool) where
  -- the hits of the first counter matter to its own place only
  first_bits : (n : ℕ) (c : Counter) (cs : List Counter) (ks : List ℕ) → All (λ k. suc n ≤ k) ks → hit_bits ks (places_from f n (c ∷ cs)) ≡ hit_bits ks (places_from f (suc n) cs)
  unfolding places_from
  first_bits n c cs ks h = go (f c)
    where
      go : (b : Bool) → hit_bits ks (cond b (n ∷ places_from f (suc n) cs) (places_from f (suc n) cs)) ≡ hit_bits ks (places_from f (suc n) cs)
      go true = bits-past n ks (places_from f (suc n) cs) h
      go false = refl

  own_bit : (n : ℕ) (c : Counter) (cs : List Counter) → one_of n (places_from f n (c ∷ cs)) ≡ f c
  own_bit n c cs = ap (λ (m : ℕ). one_of m (places_from f n (c ∷ cs))) (sym (add-zero n)) ∙ one_of-places f c n 0 (c ∷ cs) (omega arith)

  -- one counter more, illegal or not
  one_more : (n : ℕ) (b : Bool) (c : Counter) (cs : List Counter) (ks fs : List ℕ) → All (λ k. suc n ≤ k) ks → hit_bits ks (places_from f (suc n) cs) ≡ fs
      → hit_bits (cond b (n ∷ ks) ks) (places_from f n (c ∷ cs)) ≡ reported b (as_bit (f c)) ++ fs
  one_more n true c cs ks fs h e = bits-first n ks (places_from f n (c ∷ cs)) ∙ ap₂ (λ (x : Bool) (l : List ℕ). as_bit x ∷ l) (own_bit n c cs) (first_bits n c cs ks h ∙ e)
  one_more n false c cs ks fs h e = first_bits n c cs ks h ∙ e

  bits_are : (n : ℕ) (cs : List Counter) → hit_bits (places_from (λ c. of_kind 2 (kind_of c)) n cs) (places_from f n cs) ≡ illegal_flags (map kind_of cs) (map (λ c. as_bit (f c)) cs)
  bits_are n [] = unfold places_from hit_bits illegal_flags in refl
  bits_are n (c ∷ cs) =
      ap (λ (l : List ℕ). hit_bits l (places_from f n (c ∷ cs))) (places-cons n c cs)
      ∙ one_more n (of_kind 2 (kind_of c)) c cs (places_from (λ x. of_kind 2 (kind_of x)) (suc n) cs) _ (places-from (λ x. of_kind 2 (kind_of x)) (suc n) cs) (bits_are (suc n) cs)
      ∙ flags-cons (kind_of c) (as_bit (f c)) (map kind_of cs) (map (λ x. as_bit (f x)) cs)

pub report-listed : (t : Table) (f : Counter → Bool) → hit_bits (illegal_places t) (places_from f 0 (counters t)) ≡ illegal_flags (kinds_of (counters t)) (map (λ c. as_bit (f c)) (counters t))
unfolding illegal_places kinds_of
report-listed t f = bits_are f 0 (counters t)

placed : (t : Table) (s : List ℕ) (m : Stretches) → hit_places t s m ≡ places_from (hits t s m) 0 (counters t)
unfolding hit_places
placed t s m = refl

hit-map : (ks hs : List ℕ) → map (λ k. as_bit (one_of k hs)) ks ≡ hit_bits ks hs
unfolding hit_bits
hit-map ks hs = refl

-- the report of a sample
pub report-places : (t : Table) (s w : List ℕ) → hit_bits (illegal_places t) (places_from is_set 0 (flags_after t s w)) ≡ report_of t (flags_after t s w)
unfolding flags_after hit_flags
report-places t s w =
    let m = run_stretches (all_lengths t.transition_bins (runs_after t s w)) in
    ap (hit_bits (illegal_places t)) (sym (places_flagged t s m)) ∙ flagged m
  where
    flagged : (m : Stretches) → hit_bits (illegal_places t) (hit_places t s m) ≡ illegal_flags (kinds_of (counters t)) (map (λ c. as_bit (hits t s m c)) (counters t))
    flagged m = ap (hit_bits (illegal_places t)) (placed t s m) ∙ report-listed t (hits t s m)

-- as many as the report has words
pub illegal-many : (t : Table) → length (illegal_places t) ≡ illegal_total t
illegal-many t = sym (length-map (illegal_places t) (λ k. as_bit (one_of k (places_from is_set 0 (flags_after t [] []))))) ∙ ap length (bits t) ∙ report-length t [] []
  where
    bits : (t : Table) → map (λ k. as_bit (one_of k (places_from is_set 0 (flags_after t [] [])))) (illegal_places t) ≡ report_of t (flags_after t [] [])
    bits t = hit-map (illegal_places t) (places_from is_set 0 (flags_after t [] [])) ∙ report-places t [] []
