-- Verdicts one after the other: records in a row cut anywhere, and what owners own as one row.
-- Assumes nothing.
use Rattle.std.proofs.Common.{Ok, Err}
use Prim.Native.Nat.{ℕ, zero, suc, ◌+◌, ◌-◌, ◌<◌}
use mathlib.Core.Path.{◌≡◌, refl, sym, ap, ◌∙◌}
use mathlib.Core.List.{List, [], ◌∷◌, ◌++◌}
use native.Mathlib.Omega.{arith}
use Rattle.model.specs.Lists.{sum_of, concat_of}
use Rattle.model.specs.Format.{Read, refused, got, Reader, and_then, times, each}
use Rattle.model.specs.Raw.{rows}
use Rattle.words.specs.Verdicts.{Verdict, verdict_of}
use Rattle.words.specs.declared.verdicts.Fault.{Fault}
use Rattle.words.proofs.Laws.{verdict-done, each-stop, each_on}

-- ---- one verdict after the other

-- a verdict, and where it is sound what k says from its place on
unfoldable pub goes_on : Verdict → (ℕ → Verdict) → Verdict
goes_on (Err f) k = Err f
goes_on (Ok at) k = k at

pub goes_same : (v : Verdict) (k l : ℕ → Verdict) → ((at : ℕ) → k at ≡ l at) → goes_on v k ≡ goes_on v l
unfolding goes_on
goes_same (Err f) k l h = refl
goes_same (Ok at) k l h = h at

pub goes_assoc : (v : Verdict) (k l : ℕ → Verdict) → goes_on (goes_on v k) l ≡ goes_on v (λ at. goes_on (k at) l)
unfolding goes_on
goes_assoc (Err f) k l = refl
goes_assoc (Ok at) k l = refl

pub then-verdict : {A B : Type 0} (m : Read A) (k : A → Reader B) (g : ℕ → Verdict) → ((a : A) (at : ℕ) → verdict_of (k a at) ≡ g at)
    → verdict_of (and_then m k) ≡ goes_on (verdict_of m) g
unfolding verdict_of goes_on
then-verdict (refused f) k g h = refl
then-verdict (got a at) k g h = h a at

-- a record and those after it
pub cons-verdict : {A : Type 0} (m : Read A) (k : ℕ → Read (List A))
    → verdict_of (and_then m λ a next. and_then (k next) λ rest end. got (a ∷ rest) end) ≡ goes_on (verdict_of m) (λ next. verdict_of (k next))
cons-verdict m k = then-verdict m _ (λ next. verdict_of (k next)) (λ a at. verdict-done (k at) (λ rest. a ∷ rest))

-- ---- records in a row, cut anywhere

-- readers with the same verdicts
pub times-same : {A B : Type 0} (one : Reader A) (other : Reader B) → ((at : ℕ) → verdict_of (one at) ≡ verdict_of (other at))
    → (n at : ℕ) → verdict_of (times n one at) ≡ verdict_of (times n other at)
unfolding times
times-same one other h zero at = unfold verdict_of in refl
times-same one other h (suc n) at =
    cons-verdict (one at) (times n one)
    ∙ ap (λ (v : Verdict). goes_on v (λ next. verdict_of (times n one next))) (h at)
    ∙ goes_same (verdict_of (other at)) _ _ (times-same one other h n)
    ∙ sym (cons-verdict (other at) (times n other))

pub times-add : {A : Type 0} (one : Reader A) (a b at : ℕ) → verdict_of (times (a + b) one at) ≡ goes_on (verdict_of (times a one at)) (λ next. verdict_of (times b one next))
unfolding times
times-add one zero b at = ap (λ (n : ℕ). verdict_of (times n one at)) (let y : 0 + b ≡ b = omega arith in y) ∙ (unfold goes_on verdict_of in refl)
times-add one (suc a) b at =
    ap (λ (n : ℕ). verdict_of (times n one at)) (let y : suc a + b ≡ suc (a + b) = omega arith in y)
    ∙ cons-verdict (one at) (times (a + b) one)
    ∙ goes_same (verdict_of (one at)) _ _ (times-add one a b)
    ∙ sym (goes_assoc (verdict_of (one at)) (λ next. verdict_of (times a one next)) (λ next. verdict_of (times b one next)))
    ∙ ap (λ (v : Verdict). goes_on v (λ next. verdict_of (times b one next))) (sym (cons-verdict (one at) (times a one)))

-- ---- what owners own as one row

pub each_append : {A B : Type 0} (one : A → Reader B) (xs ys : List A) (at : ℕ) → verdict_of (each one (xs ++ ys) at) ≡ goes_on (verdict_of (each one xs at)) (λ next. verdict_of (each one ys next))
unfolding each
each_append one [] ys at = unfold goes_on verdict_of in refl
each_append one (x ∷ xs) ys at =
    cons-verdict (one x at) (each one (xs ++ ys))
    ∙ goes_same (verdict_of (one x at)) _ _ (each_append one xs ys)
    ∙ sym (goes_assoc (verdict_of (one x at)) (λ next. verdict_of (each one xs next)) (λ next. verdict_of (each one ys next)))
    ∙ ap (λ (v : Verdict). goes_on v (λ next. verdict_of (each one ys next))) (sym (cons-verdict (one x at) (each one xs)))

module _ {A B : Type 0} (one : A → Reader B) where
  -- each owner has a row of records
  pub each_times : {C : Type 0} (r : Reader C) (f : A → ℕ) → ((o : A) (at : ℕ) → verdict_of (one o at) ≡ verdict_of (times (f o) r at))
      → (os : List A) (at : ℕ) → verdict_of (each one os at) ≡ verdict_of (times (sum_of f os) r at)
  unfolding each sum_of
  each_times r f h [] at = unfold times verdict_of in refl
  each_times r f h (o ∷ os) at =
      cons-verdict (one o at) (each one os)
      ∙ goes_same (verdict_of (one o at)) _ _ (each_times r f h os)
      ∙ ap (λ (v : Verdict). goes_on v (λ next. verdict_of (times (sum_of f os) r next))) (h o at)
      ∙ sym (times-add r (f o) (sum_of f os) at)

  -- each owner has owners
  pub each_each : {C D : Type 0} (inner : C → Reader D) (f : A → List C) → ((o : A) (at : ℕ) → verdict_of (one o at) ≡ verdict_of (each inner (f o) at))
      → (os : List A) (at : ℕ) → verdict_of (each one os at) ≡ verdict_of (each inner (concat_of f os) at)
  unfolding each concat_of
  each_each inner f h [] at = unfold verdict_of in refl
  each_each inner f h (o ∷ os) at =
      cons-verdict (one o at) (each one os)
      ∙ goes_same (verdict_of (one o at)) _ _ (each_each inner f h os)
      ∙ ap (λ (v : Verdict). goes_on v (λ next. verdict_of (each inner (concat_of f os) next))) (h o at)
      ∙ sym (each_append inner (f o) (concat_of f os) at)

-- an owner in a row that the code has read already
module _ {A B : Type 0} (one : A → Reader B) (says : ℕ → A) (size m i place at : ℕ) (x : Verdict) (inv : x ≡ verdict_of (each one (rows says size place (m - i)) at))
    (o : A) (h : i < m) (eo : o ≡ says place) where
  pub owner_stop : (f : Fault) → Err f ≡ verdict_of (one o at) → Err f ≡ x
  owner_stop f e = each-stop one says size m i place at x inv f h (e ∙ ap (λ (y : A). verdict_of (one y at)) eo)

  pub owner_on : (next : ℕ) → Ok next ≡ verdict_of (one o at) → x ≡ verdict_of (each one (rows says size (place + size) (m - (i + 1))) next)
  owner_on next e = each_on one says size m i place at x inv next h (e ∙ ap (λ (y : A). verdict_of (one y at)) eo)
