-- Entries that elements add to: what one entry holds in the end, and how much it can be.
-- Assumes nothing.
use mathlib.Core.Path.{◌≡◌, refl, sym, ap, ap₂, ◌∙◌}
use mathlib.Core.Bool.{Bool, true, false, cond}
use mathlib.Core.List.{List, [], ◌∷◌}
use Prim.Native.Nat.{ℕ, zero, suc, ◌+◌, ◌*◌, ◌-◌, ◌≤◌, ◌<◌}
use native.Mathlib.Nat.{sub-zero}
use native.Mathlib.Omega.{arith}
use lib.Dec.{eqb}
use lib.ListN.{length, get_or, set, replicate, length-set}
use borrow.Author.Tests.{ltb-true, eqb-true, eqb-false, ne_eqb}
use Rattle.model.specs.Lists.{all, sum_of}
use Rattle.model.specs.Table.{ValueBin}
use Rattle.model.specs.Format.{byte, u16}
use Rattle.model.specs.Raw.{rows, bin_at, bins_at}
use Rattle.model.proofs.Booleans.{and_left, and_right}
use Rattle.model.proofs.Lists.{none_left, one_left}
use Rattle.limits.specs.Bins.{more, added, Entries, here, bin_below, bin_point}

-- ---- one entry

set_same : (l : List ℕ) (i x : ℕ) → i < length l → get_or (set l i x) i 0 ≡ x
set_same [] i x h = absurd (omega arith)
set_same (y ∷ l) zero x h = refl
set_same (y ∷ l) (suc i) x h = set_same l i x (omega arith)

set_other : (l : List ℕ) (i j x : ℕ) → (i ≡ j → ⊥) → get_or (set l i x) j 0 ≡ get_or l j 0
set_other [] i j x h = refl
set_other (y ∷ l) zero zero x h = absurd (h refl)
set_other (y ∷ l) zero (suc j) x h = refl
set_other (y ∷ l) (suc i) zero x h = refl
set_other (y ∷ l) (suc i) (suc j) x h = set_other l i j x (λ e. h (ap suc e))

more-at : (l : List ℕ) (i x p : ℕ) → p < length l → get_or (more i x l) p 0 ≡ get_or l p 0 + cond (eqb i p) x 0
more-at l i x p h = go (eqb i p) refl
  where
    go : (b : Bool) → eqb i p ≡ b → get_or (more i x l) p 0 ≡ get_or l p 0 + cond b x 0
    go true e =
        let z : i ≡ p = eqb-true i p e in
        ap (λ (j : ℕ). get_or (set l j (get_or l j 0 + x)) p 0) z ∙ set_same l p (get_or l p 0 + x) h
    go false e = set_other l i p (get_or l i 0 + x) (eqb-false i p e) ∙ omega arith

pub added-at : {A : Type 0} (at f : A → ℕ) (xs : List A) (l : List ℕ) (p : ℕ) → p < length l → get_or (added at f xs l) p 0 ≡ get_or l p 0 + sum_of (λ x. cond (eqb (at x) p) (f x) 0) xs
unfolding added sum_of
added-at at f [] l p h = omega arith
added-at at f (x ∷ xs) l p h =
    let e = added-at at f xs (more (at x) (f x) l) p (omega (arith, length-set l (at x) (get_or l (at x) 0 + f x))) in
    omega (arith, e, more-at l (at x) (f x) p h)

-- ---- bounds

most-set : (l : List ℕ) (i x k : ℕ) → ((p : ℕ) → get_or l p 0 ≤ k) → x ≤ k → (p : ℕ) → get_or (set l i x) p 0 ≤ k
most-set [] i x k h b p = h p
most-set (y ∷ l) zero x k h b zero = b
most-set (y ∷ l) zero x k h b (suc p) = h (suc p)
most-set (y ∷ l) (suc i) x k h b zero = h 0
most-set (y ∷ l) (suc i) x k h b (suc p) = most-set l i x k (λ q. h (suc q)) b p

pub entries-more : (k m : ℕ) (l : List ℕ) (i x j : ℕ) (l' : List ℕ) → Entries k l → x ≤ m → k + m ≤ j → l' ≡ more i x l → Entries j l'
entries-more k m l i x j l' e h b eq = rw eq (record {
  count = length-set l i (get_or l i 0 + x) ∙ e.count;
  most = most-set l i (get_or l i 0 + x) j (λ p. omega (arith, e.most p)) (omega (arith, e.most i));
})

pub entries_up : (k j : ℕ) (l : List ℕ) → Entries k l → k ≤ j → Entries j l
entries_up k j l e h = record { count = e.count; most = λ p. omega (arith, e.most p) }

-- room for a term
pub entries-room : (k m : ℕ) (l : List ℕ) (p x : ℕ) → Entries k l → p < 16 → x ≤ m → k + m < 4294967296 → (p < length l) × (get_or l p 0 + x < 4294967296)
entries-room k m l p x e h b room = (omega (arith, e.count), omega (arith, e.most p))

-- ---- passes: `whole` is what all elements add, and what those that are left add to l

module _ (f : ValueBin → ℕ) (s : List ℕ) (b r n i : ℕ) (whole l : List ℕ) (inv : whole ≡ added bin_point f (bins_at s b r (n - i)) l) where
  pub bins_done : n ≤ i → l ≡ whole
  unfolding added bins_at
  bins_done h = sym (rw (none_left n i h) at inv)

  pub bins_on : i < n → (r' : ℕ) (l' : List ℕ) → r' ≡ r + 17 * u16 s (b + 6) → l' ≡ more (byte s b) (f (bin_at s b r)) l → whole ≡ added bin_point f (bins_at s (b + 8) r' (n - (i + 1))) l'
  unfolding added bins_at
  bins_on h r' l' er el =
      let y : whole ≡ added bin_point f (bins_at s (b + 8) (r + 17 * u16 s (b + 6)) (n - (i + 1))) (more (byte s b) (f (bin_at s b r)) l) = rw (one_left n i h) at inv in
      y ∙ ap₂ (λ (r : ℕ) (l : List ℕ). added bin_point f (bins_at s (b + 8) r (n - (i + 1))) l) (sym er) (sym el)

pub bins_start : (f : ValueBin → ℕ) (s : List ℕ) (b r n : ℕ) (l : List ℕ) → added bin_point f (bins_at s b r n) l ≡ added bin_point f (bins_at s b r (n - 0)) l
bins_start f s b r n l = rw sub-zero

module _ (g f : ℕ → ℕ) (size at n i : ℕ) (whole l : List ℕ) (inv : whole ≡ added g f (rows here size at (n - i)) l) where
  pub rows_done : n ≤ i → l ≡ whole
  unfolding added rows
  rows_done h = sym (rw (none_left n i h) at inv)

  pub rows_on : i < n → (l' : List ℕ) → l' ≡ more (g at) (f at) l → whole ≡ added g f (rows here size (at + size) (n - (i + 1))) l'
  unfolding added rows
  rows_on h l' el =
      let y : whole ≡ added g f (rows here size (at + size) (n - (i + 1))) (more (g at) (f at) l) = rw (one_left n i h) at inv in
      y ∙ ap (added g f (rows here size (at + size) (n - (i + 1)))) (sym el)

pub rows_start : (g f : ℕ → ℕ) (size at n : ℕ) (l : List ℕ) → added g f (rows here size at n) l ≡ added g f (rows here size at (n - 0)) l
rows_start g f size at n l = rw sub-zero

-- the bins that are left are bins of np points
module _ (s : List ℕ) (np b r n i : ℕ) (inv : all (bin_below np) (bins_at s b r (n - i)) ≡ true) (h : i < n) where
  pub bins_first : byte s b < np
  unfolding bins_at all
  bins_first = ltb-true (byte s b) np (and_left (bin_below np (bin_at s b r)) _ (rw (one_left n i h) at inv))

  pub bins_others : (r' : ℕ) → r' ≡ r + 17 * u16 s (b + 6) → all (bin_below np) (bins_at s (b + 8) r' (n - (i + 1))) ≡ true
  unfolding bins_at all
  bins_others r' e = ap (λ (r : ℕ). all (bin_below np) (bins_at s (b + 8) r (n - (i + 1)))) e ∙ and_right (bin_below np (bin_at s b r)) _ (rw (one_left n i h) at inv)

-- ---- a sum over numbers that keeps one of them

module _ (f : ℕ → ℕ) (p : ℕ) where
  sum_none : (j n : ℕ) → p < j → sum_of (λ i. cond (eqb i p) (f i) 0) (rows here 1 j n) ≡ 0
  unfolding sum_of rows
  sum_none j zero h = refl
  sum_none j (suc n) h = ap₂ ◌+◌ (ap (λ (b : Bool). cond b (f j) 0) (ne_eqb j p (λ e. omega arith))) (sum_none (j + 1) n (omega arith))

  pub sum_only : (j n : ℕ) → j ≤ p → p < j + n → sum_of (λ i. cond (eqb i p) (f i) 0) (rows here 1 j n) ≡ f p
  unfolding sum_of rows
  sum_only j zero h k = absurd (omega arith)
  sum_only j (suc n) h k = go (eqb j p) refl (sum_only (j + 1) n)
    where
      go : (b : Bool) → eqb j p ≡ b → (j + 1 ≤ p → p < j + 1 + n → sum_of (λ i. cond (eqb i p) (f i) 0) (rows here 1 (j + 1) n) ≡ f p)
          → cond b (f j) 0 + sum_of (λ i. cond (eqb i p) (f i) 0) (rows here 1 (j + 1) n) ≡ f p
      go true e ih =
          let z : j ≡ p = eqb-true j p e in
          ap₂ ◌+◌ (ap f z) (sum_none (j + 1) n (omega arith)) ∙ omega arith
      go false e ih = let z : j ≡ p → ⊥ = eqb-false j p e in let y = ih (omega (arith, z)) (omega arith) in omega arith

-- ---- no counts yet

none_yet : (n p : ℕ) → get_or (replicate n 0) p 0 ≤ 0
none_yet zero p = omega arith
none_yet (suc n) zero = omega arith
none_yet (suc n) (suc p) = none_yet n p

pub entries_none : Entries 0 (replicate 16 0)
entries_none = record { count = refl; most = none_yet 16 }
