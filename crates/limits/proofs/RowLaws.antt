-- Laws of lists by their numbers, and of tests that records in a row pass.
-- Assumes nothing.
use mathlib.Core.Path.{◌≡◌, refl, sym, ap, ap₂, ◌∙◌}
use mathlib.Core.Bool.{Bool, true, false, not, ◌&&◌, ◌||◌}
use mathlib.Core.List.{List, [], ◌∷◌}
use Prim.Native.Nat.{ℕ, zero, suc, ◌+◌, ◌-◌, ◌≤◌, ◌<◌}
use native.Mathlib.Nat.{sub-zero}
use native.Mathlib.Omega.{arith}
use lib.Dec.{eqb}
use lib.ListN.{length, get_or}
use borrow.Author.Tests.{ne_eqb}
use Rattle.model.specs.Lists.{up_from, any, all, sum_of}
use Rattle.model.specs.Raw.{rows}
use Rattle.model.proofs.Booleans.{and_left, and_right}
use Rattle.model.proofs.Readers.{All}
use Rattle.model.proofs.Lists.{none_left, one_left}
use Rattle.limits.specs.Walks.{walk_sum, after}
use Rattle.limits.specs.Bins.{here}
use Rattle.limits.proofs.WalkLaws.{walk-cons}

-- ---- lists

pub all_by-number : {A : Type 0} (P : A → Type 0) (d : A) (xs : List A) → ((i : ℕ) → i < length xs → P (get_or xs i d)) → All P xs
all_by-number P d [] h = tt
all_by-number P d (x ∷ xs) h = (h 0 (omega arith), all_by-number P d xs (λ i k. h (suc i) (omega arith)))

-- over the numbers of some elements
pub all_numbers : {A : Type 0} (f : A → Bool) (d : A) (xs : List A) → all (λ i. f (get_or xs i d)) (up_from 0 (length xs)) ≡ all f xs
unfolding all up_from
all_numbers f d [] = refl
all_numbers f d (x ∷ xs) = ap (f x &&◌) (shift (λ i. f (get_or (x ∷ xs) i d)) 0 (length xs) ∙ all_numbers f d xs)
  where
    shift : (g : ℕ → Bool) (i n : ℕ) → all g (up_from (suc i) n) ≡ all (λ j. g (suc j)) (up_from i n)
    shift g i zero = refl
    shift g i (suc n) = ap (g (suc i) &&◌) (shift g (suc i) n)

pub rows_up : (i n : ℕ) → rows here 1 i n ≡ up_from i n
unfolding rows up_from
rows_up i zero = refl
rows_up i (suc n) = ap (i ∷◌) (rows_up (i + 1) n ∙ ap (λ (j : ℕ). up_from j n) (let z : i + 1 ≡ suc i = omega arith in z))

pub walk_up : (f : ℕ → ℕ) (i n : ℕ) → walk_sum 0 f (after 1) i n ≡ sum_of f (up_from i n)
unfolding sum_of up_from
walk_up f i zero = unfold walk_sum in refl
walk_up f i (suc n) = walk-cons f (after 1) i n ∙ ap (f i +◌) (walk_up f (i + 1) n ∙ ap (λ (j : ℕ). sum_of f (up_from j n)) (let z : i + 1 ≡ suc i = omega arith in z))

-- some element passes exactly if what stands for the test is not 0 everywhere
pub any_sum : {A : Type 0} (f : A → Bool) (g : A → ℕ) → ((x : A) → f x ≡ not (eqb (g x) 0)) → (xs : List A) → any f xs ≡ not (eqb (sum_of g xs) 0)
unfolding any sum_of
any_sum f g h [] = refl
any_sum f g h (x ∷ xs) = ap₂ ◌||◌ (h x) (any_sum f g h xs) ∙ go (g x) (sum_of g xs)
  where
    go : (a b : ℕ) → (not (eqb a 0) || not (eqb b 0)) ≡ not (eqb (a + b) 0)
    go zero b = ap (λ (n : ℕ). not (eqb n 0)) (let z : b ≡ 0 + b = omega arith in z)
    go (suc a) b = ap (λ (e : Bool). not e || not (eqb b 0)) (ne_eqb (suc a) 0 (λ e. omega arith)) ∙ ap not (sym (ne_eqb (suc a + b) 0 (λ e. omega arith)))

-- ---- tests that all records pass

module _ {A : Type 0} (f : A → Bool) (says : ℕ → A) (size : ℕ) where
  pub all_start : (m at : ℕ) → all f (rows says size at m) ≡ all f (rows says size at (m - 0))
  all_start m at = rw sub-zero

  -- ok: those before pass
  module _ (m i at : ℕ) (x ok : Bool) (inv : x ≡ (ok && all f (rows says size at (m - i)))) where
    pub all_done : m ≤ i → ok ≡ x
    unfolding all rows
    all_done h = last ok ∙ sym (rw (none_left m i h) at inv)
      where
        last : (b : Bool) → b ≡ (b && true)
        last true = refl
        last false = refl

    pub all-on : (r : Bool) → i < m → r ≡ f (says at) → x ≡ ((ok && r) && all f (rows says size (at + size) (m - (i + 1))))
    unfolding all rows
    all-on r h e = (rw (one_left m i h) at inv) ∙ ap (λ (b : Bool). ok && (b && all f (rows says size (at + size) (m - (i + 1))))) (sym e) ∙ nest ok
      where
        nest : (b : Bool) → (b && (r && all f (rows says size (at + size) (m - (i + 1))))) ≡ ((b && r) && all f (rows says size (at + size) (m - (i + 1))))
        nest true = refl
        nest false = refl

-- what all of them pass, the first does and the others do
module _ {A : Type 0} (f : A → Bool) (says : ℕ → A) (size at n i : ℕ) (inv : all f (rows says size at (n - i)) ≡ true) (h : i < n) where
  pub rows_first : f (says at) ≡ true
  unfolding rows all
  rows_first = and_left (f (says at)) _ (rw (one_left n i h) at inv)

  pub rows_others : all f (rows says size (at + size) (n - (i + 1))) ≡ true
  unfolding rows all
  rows_others = and_right (f (says at)) _ (rw (one_left n i h) at inv)
