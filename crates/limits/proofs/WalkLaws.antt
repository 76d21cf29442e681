-- Sums as loops keep them: x is the sum from the loop's start, and what is left gives it too.
-- Assumes nothing.
use mathlib.Core.Path.{◌≡◌, refl, sym, ap, ap₂, ◌∙◌}
use mathlib.Core.List.{List}
use Prim.Native.Nat.{ℕ, zero, suc, ◌+◌, ◌-◌, ◌≤◌, ◌<◌}
use native.Mathlib.Nat.{sub-zero}
use native.Mathlib.Omega.{arith}
use borrow.Author.Rules.{rules}
use Rattle.model.proofs.Lists.{none_left, one_left}
use Rattle.model.specs.Lists.{sum_of}
use Rattle.model.specs.Format.{byte}
use Rattle.model.specs.Raw.{rows}
use Rattle.words.specs.Sums.{sum_from, byte_sum, here}
use Rattle.words.proofs.ByteSums.{byte_field₀}
use Rattle.limits.specs.Walks.{walk_sum, after, byte_at}

module _ {S : Type 0} (f : S → ℕ) (next : S → S) where
  pub walk_start : (m : ℕ) (st : S) → walk_sum 0 f next st m ≡ walk_sum 0 f next st (m - 0)
  walk_start m st = rw sub-zero

  module _ (m i x sum : ℕ) (st : S) (inv : x ≡ walk_sum sum f next st (m - i)) where
    pub walk-done : m ≤ i → sum ≡ x
    unfolding walk_sum
    walk-done h = sym (rw (none_left m i h) at inv)

    pub walk-on : (r : ℕ) (to : S) → i < m → r ≡ f st → to ≡ next st → x ≡ walk_sum (sum + r) f next to (m - (i + 1))
    unfolding walk_sum
    walk-on r to h e g = (rw (one_left m i h) at inv) ∙ ap₂ (λ (a : ℕ) (b : S). walk_sum (sum + a) f next b (m - (i + 1))) (sym e) (sym g)

pub ruleset walks = (rules, walk_start, walk-done, walk-on)

-- what was summed before
pub walk_from : {S : Type 0} (f : S → ℕ) (next : S → S) (sum : ℕ) (st : S) (n : ℕ) → walk_sum sum f next st n ≡ sum + walk_sum 0 f next st n
unfolding walk_sum
walk_from f next sum st zero = omega arith
walk_from f next sum st (suc n) = omega (arith, walk_from f next (sum + f st) (next st) n, walk_from f next (0 + f st) (next st) n)

pub walk-cons : {S : Type 0} (f : S → ℕ) (next : S → S) (st : S) (n : ℕ) → walk_sum 0 f next st (suc n) ≡ f st + walk_sum 0 f next (next st) n
unfolding walk_sum
walk-cons f next st n = walk_from f next (0 + f st) (next st) n ∙ (let z : 0 + f st + walk_sum 0 f next (next st) n ≡ f st + walk_sum 0 f next (next st) n = omega arith in z)

-- a walk over places, size apart
pub walk-rows : (f : ℕ → ℕ) (size at n : ℕ) → sum_of f (rows here size at n) ≡ walk_sum 0 f (after size) at n
unfolding sum_of rows
walk-rows f size at zero = unfold walk_sum in refl
walk-rows f size at (suc n) = ap (f at +◌) (walk-rows f size (at + size) n) ∙ sym (walk-cons f (after size) at n)

pub walk-terms : (f : ℕ → ℕ) (size at n sum : ℕ) → sum ≡ sum_from 0 f here size at n → sum ≡ walk_sum 0 f (after size) at n
unfolding sum_from
walk-terms f size at n sum e = omega (arith, walk-rows f size at n)

pub walk-bytes : (s : List ℕ) (size at n : ℕ) → byte_sum s size at n ≡ walk_sum 0 (byte_at s) (after size) at n
walk-bytes s size at n = byte_field₀ s (byte s) here size (λ at. refl) at n ∙ walk-rows (byte_at s) size at n
