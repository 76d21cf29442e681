-- The refusals of a call: the table's own, then the first of the call's tests that fails.
-- Assumes nothing.
use Rattle.std.specs.Prelude.{ℕ, ◌+◌, ◌*◌, ◌^◌, ◌≤◌, ◌<◌, ◌≡◌, Bool, ◌&&◌, List, [], ◌∷◌, ◌++◌, leb, ltb, eqb, length, take, drop, Result, Ok}
use Rattle.model.specs.Lists.{up_from, all, first_failed}
use Rattle.model.specs.Table.{Table}
use Rattle.model.specs.Sampling.{value_word, unknown_word}
use Rattle.model.specs.Figures.{item_count}
use Rattle.model.specs.Format.{byte, number_of, Outcome, rejected, decoded, decode}
use Rattle.model.specs.Raw.{records_place}
use Rattle.model.specs.Register.{point_total, counter_total, run_total, illegal_total, flag_of, samples_of, Call, ask_item, register_tests, last_sample, call_tests}
use Rattle.table.specs.declared.answer.Facts.{Facts}
use Rattle.table.specs.Check.{facts_of}
use Rattle.refusals.specs.Numbers.{number_in, pass}
use Rattle.refusals.specs.declared.refusal.Refusal.{Refusal}

-- ---- a table's facts

-- f are the facts of the table
pub record Describes (f : Facts) (t : Table) : Type 0 where
  pub points : f.points ≡ point_total t
  pub counters : f.counters ≡ counter_total t
  pub runs : f.runs ≡ run_total t
  pub illegals : f.illegals ≡ illegal_total t

-- the words of a register
abbrev pub words_of : Facts → ℕ
words_of f = 2 + f.counters + f.points + f.runs

-- ---- the register's tests

abbrev pub at_most : ℕ → ℕ → Bool
at_most most n = leb n most

-- the flag is 0 or 1, and none of the n words after the sample word is above it
unfoldable pub consistent_at : ℕ → List ℕ → Bool
consistent_at n w = leb (flag_of w) 1 && all (at_most (samples_of w)) (take n (drop 2 w))

-- 7, 8, else 0; r is an answer
pub record RegisterRefusal (f : Facts) (w : List ℕ) (r : Result Unit Refusal) : Type 0 where
  pub exact : (t : Table) → Describes f t → number_in r ≡ first_failed (register_tests t w)
  pub long : r ≡ pass → words_of f ≤ length w

-- then 14 if i is not below n
pub record PartRefusal (f : Facts) (w : List ℕ) (i n : ℕ) (r : Result Unit Refusal) : Type 0 where
  pub exact : (t : Table) → Describes f t → number_in r ≡ first_failed (register_tests t w ++ (ltb i n, 14) ∷ [])
  pub long : r ≡ pass → words_of f ≤ length w
  pub inside : r ≡ pass → i < n

pub record ItemRefusal (f : Facts) (w : List ℕ) (i items : ℕ) (r : Result Unit Refusal) : Type 0 where
  pub exact : (t : Table) → Describes f t → items ≡ item_count t → number_in r ≡ first_failed (call_tests t w (ask_item i))
  pub long : r ≡ pass → words_of f ≤ length w
  pub inside : r ≡ pass → i < items

-- ---- a sample's tests

-- no value or unknown bit of the point stands above the width that the table's bytes say
abbrev pub in_width_at : List ℕ → List ℕ → ℕ → Bool
in_width_at s w p = ltb (value_word w p) (2 ^ byte s (records_place s 0 + 11 * p)) && ltb (unknown_word w p) (2 ^ byte s (records_place s 0 + 11 * p))

-- of n points
unfoldable pub in_widths_at : List ℕ → List ℕ → ℕ → Bool
in_widths_at s w n = all (in_width_at s w) (up_from 0 n)

-- a sample's own tests, by the table's bytes and how many points and illegal counters it has
unfoldable pub own_refusal : List ℕ → ℕ → ℕ → List ℕ → List ℕ → ℕ → ℕ → ℕ
own_refusal s points illegals v report flag samples =
    first_failed
    ((eqb (length v) (4 + 2 * points), 12) ∷ (in_widths_at s v points, 13) ∷ (leb illegals (length report), 11)
    ∷ (eqb flag 1, 10) ∷ (ltb samples last_sample, 9) ∷ [])

-- ---- a call on the table's bytes

abbrev pub refusal_from : Outcome → List ℕ → Call → ℕ
refusal_from (rejected f) w c = number_of f.class
refusal_from (decoded t) w c = first_failed (call_tests t w c)

unfoldable pub refusal_in : List ℕ → List ℕ → Call → ℕ
refusal_in s w c = refusal_from (decode s) w c

-- the answer of the call's own tests, where the table with those facts is accepted
pub record CallRefusal (f : Facts) (w : List ℕ) (c : Call) (r : Result Unit Refusal) : Type 0 where
  pub exact : (s : List ℕ) → Ok f ≡ facts_of s → number_in r ≡ refusal_in s w c
  pub long : r ≡ pass → words_of f ≤ length w
