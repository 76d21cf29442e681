-- No refusal has the number 0; a list of tests, from what each says.
-- Assumes nothing.
use Rattle.std.proofs.Common.{◌≡◌, ℕ, Bool, true, false, List, [], ◌∷◌, Result, Ok, Err, arith, ap}
use Rattle.std.specs.Result.{IsErr, IsErrAnd}
use Rattle.model.specs.Lists.{first_failed}
use Rattle.words.proofs.Numbers.{never-zero}
use Rattle.refusals.specs.Numbers.{number_of, number_in, pass, tested}
use Rattle.refusals.specs.declared.refusal.Refusal.{Refusal}
use Rattle.refusals.specs.declared.refusal.Refusal.TheVariants.{Table, Short, Inconsistent, Full, Stopped, Report, Length, Width, NoPart}

pub never-none : (x : Refusal) → number_of x ≡ 0 → ⊥
never-none (Table f) e = never-zero f.class e
never-none Short e = omega arith
never-none Inconsistent e = omega arith
never-none Full e = omega arith
never-none Stopped e = omega arith
never-none Report e = omega arith
never-none Length e = omega arith
never-none Width e = omega arith
never-none NoPart e = omega arith

-- what a `?` hands on
pub handed : {A : Type 0} (r : Result A Refusal) (x : Refusal) → IsErr r × IsErrAnd r (λ y. y ≡ x) → r ≡ Err x
handed (Ok a) x h = absurd h.1
handed (Err e) x h = ap (λ (q : Refusal). Err q) h.1

-- ---- tests in their order

pub first_stop : (ok : Bool) (x y : Refusal) (rest : List (Bool × ℕ)) → Err y ≡ tested ok x → number_of y ≡ first_failed ((ok, number_of x) ∷ rest)
unfolding first_failed
first_stop true x y rest e = absurd (cc)
first_stop false x y rest e = ap number_of (let z : y ≡ x = cc in z)

pub first_on : (ok : Bool) (x : Refusal) (rest : List (Bool × ℕ)) (n : ℕ) → pass ≡ tested ok x → n ≡ first_failed rest → n ≡ first_failed ((ok, number_of x) ∷ rest)
unfolding first_failed
first_on true x rest n e h = h
first_on false x rest n e h = absurd (cc)

pub first_last : (ok : Bool) (x : Refusal) (r : Result Unit Refusal) → r ≡ tested ok x → number_in r ≡ first_failed ((ok, number_of x) ∷ [])
unfolding first_failed
first_last true x r e = ap number_in e
first_last false x r e = ap number_in e
