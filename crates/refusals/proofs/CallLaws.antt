-- A call on the table's bytes, from its refusal.
-- Assumes nothing.
use mathlib.Core.Path.{◌≡◌, refl, sym, ap, ◌∙◌}
use mathlib.Core.Bool.{Bool, true, cond}
use mathlib.Core.List.{List, [], ◌∷◌, ◌++◌}
use Prim.Native.Nat.{ℕ, zero, suc, ◌≤◌, ◌<◌}
use native.Mathlib.Omega.{arith}
use lib.Dec.{ltb}
use lib.ListN.{length}
use borrow.Author.Tests.{le-leb, lt-leb}
use Rattle.model.specs.Lists.{first_failed}
use Rattle.model.specs.Table as model
use Rattle.model.specs.Format.{Outcome, rejected, decoded, decode, is_decoded, accepted, table_from, table_of}
use Rattle.model.specs.Register.{words_needed, Call, reset, start, stop, ask_counter, ask_unknown, register_tests, call_tests, accept, refuse, perform, on_table, on_outcome, call}
use Rattle.words.specs.Verdicts.{class_of, fault_at}
use Rattle.words.specs.declared.verdicts.Fault.{Fault}
use Rattle.table.specs.declared.answer.Facts.{Facts}
use Rattle.table.specs.Check.{facts_from, facts_of}
use Rattle.refusals.specs.Refusals.{Describes, words_of, RegisterRefusal, PartRefusal, refusal_from, refusal_in, CallRefusal}
use Rattle.std.proofs.Common.{Result, Ok, Err}
use Rattle.refusals.specs.Numbers.{number_of, number_in, pass}
use Rattle.refusals.specs.declared.refusal.Refusal.{Refusal}
use Rattle.refusals.specs.declared.refusal.Refusal.TheVariants.{Short, Table}
use Rattle.refusals.proofs.Numbers.{never-none}
use Rattle.words.proofs.Numbers.{same_number}
use Rattle.refusals.proofs.RefusalLaws.{words_by}

-- a number of what is told of an accepted table
number_on : (Facts → ℕ) → Result Facts Fault → ℕ
number_on g (Ok f) = g f
number_on g (Err e) = 0

-- ---- the call's refusal, from the table's

facts_describe : (f : Facts) (t : model.Table) → Ok f ≡ facts_from (decoded t) → Describes f t
unfolding number_on
facts_describe f t e = record {
  points = by (λ x. x.points);
  counters = by (λ x. x.counters);
  runs = by (λ x. x.runs);
  illegals = by (λ x. x.illegals);
}
  where
    by : (g : Facts → ℕ) → g f ≡ number_on g (facts_from (decoded t))
    by g = ap (number_on g) e

-- a refused table's number is its fault's
pub fault_number : (f : Fault) (s w : List ℕ) (c : Call) → Err f ≡ facts_of s → number_of (Table f) ≡ refusal_in s w c
unfolding facts_of refusal_in
fault_number f s w c e = go (decode s) e
  where
    go : (o : Outcome) → Err f ≡ facts_from o → number_of (Table f) ≡ refusal_from o w c
    go (rejected x) e = ap (λ (q : Fault). number_of (Table q)) (let y : f ≡ fault_at (class_of x.class) x.at = cc in y) ∙ same_number x.class
    go (decoded t) e = absurd (cc)

module _ (f : Facts) (w : List ℕ) (c : Call) where
  -- where the table is accepted the call's own tests are left
  pub table_on : (r : Result Unit Refusal) → ((t : model.Table) → Describes f t → number_in r ≡ first_failed (call_tests t w c)) → (r ≡ pass → words_of f ≤ length w) → CallRefusal f w c r
  unfolding facts_of refusal_in
  table_on r h l = record {
    exact = λ s e. go (decode s) e;
    long = l;
  }
    where
      go : (o : Outcome) → Ok f ≡ facts_from o → number_in r ≡ refusal_from o w c
      go (rejected x) e = absurd (cc)
      go (decoded t) e = h t (facts_describe f t e)

module _ (f : Facts) (w : List ℕ) where
  pub reset_short : length w < words_of f → CallRefusal f w reset (Err Short)
  unfolding call_tests first_failed
  reset_short h =
      table_on f w reset (Err Short) (λ t d. ap (λ (x : Bool). cond x 0 7) (sym (lt-leb (words_needed t) (length w) (omega (arith, words_by f w t d)))))
      (λ y. absurd (cc))

  pub reset_passes : words_of f ≤ length w → CallRefusal f w reset pass
  unfolding call_tests first_failed
  reset_passes h =
      table_on f w reset pass (λ t d. ap (λ (x : Bool). cond x 0 7) (sym (le-leb (words_needed t) (length w) (omega (arith, words_by f w t d)))))
      (λ y. h)

  pub start_on : (r : Result Unit Refusal) → RegisterRefusal f w r → CallRefusal f w start r
  unfolding call_tests
  start_on r k = table_on f w start r k.exact k.long

  pub counter_on : (i : ℕ) (r : Result Unit Refusal) → PartRefusal f w i f.counters r → CallRefusal f w (ask_counter i) r
  unfolding call_tests
  counter_on i r k =
      table_on f w (ask_counter i) r (λ t d. k.exact t d ∙ ap (λ (n : ℕ). first_failed (register_tests t w ++ (ltb i n, 14) ∷ [])) d.counters) k.long

  pub unknown_on : (i : ℕ) (r : Result Unit Refusal) → PartRefusal f w i f.points r → CallRefusal f w (ask_unknown i) r
  unfolding call_tests
  unknown_on i r k =
      table_on f w (ask_unknown i) r (λ t d. k.exact t d ∙ ap (λ (n : ℕ). first_failed (register_tests t w ++ (ltb i n, 14) ∷ [])) d.points) k.long

-- a stop has the tests of a start
pub stop-start : (f : Facts) (w : List ℕ) (r : Result Unit Refusal) → CallRefusal f w start r → CallRefusal f w stop r
unfolding refusal_in call_tests
stop-start f w r k = record {
  exact = λ s e. go (decode s) (k.exact s e);
  long = k.long;
}
  where
    go : (o : Outcome) → number_in r ≡ refusal_from o w start → number_in r ≡ refusal_from o w stop
    go (rejected x) e = e
    go (decoded t) e = e

-- ---- the whole call, from its refusal

some-refused : (w : List ℕ) (c : Call) (n : ℕ) (t : model.Table) → (n ≡ 0 → ⊥) → perform n t w c ≡ refuse n w c
some-refused w c zero t y = absurd (y refl)
some-refused w c (suc n) t y = refl

module _ (s w : List ℕ) (c : Call) where
  refused_by : (n : ℕ) → (n ≡ 0 → ⊥) → n ≡ refusal_in s w c → call s w c ≡ refuse n w c
  unfolding call on_table refusal_in
  refused_by n z e = go (decode s) e
    where
      go : (o : Outcome) → n ≡ refusal_from o w c → on_outcome o w c ≡ refuse n w c
      go (rejected x) e = ap (λ (n : ℕ). refuse n w c) (sym e)
      go (decoded t) e = ap (λ (n : ℕ). perform n t w c) (sym e) ∙ some-refused w c n t z

  -- a refused table refuses any call
  pub table_refuses : (f : Fault) → Err f ≡ facts_of s → call s w c ≡ refuse (number_of (Table f)) w c
  table_refuses f e = refused_by (number_of (Table f)) (never-none (Table f)) (fault_number f s w c e)

  module _ (f : Facts) (told : Ok f ≡ facts_of s) where
    pub call_refused : (x : Refusal) → CallRefusal f w c (Err x) → call s w c ≡ refuse (number_of x) w c
    call_refused x known = refused_by (number_of x) (never-none x) (known.exact s told)

    pub call_accepted : CallRefusal f w c pass → (call s w c ≡ accept (table_of s) w c) × Describes f (table_of s)
    unfolding call on_table refusal_in facts_of table_of
    call_accepted known = go (decode s) (known.exact s told) told
      where
        go : (o : Outcome) → 0 ≡ refusal_from o w c → Ok f ≡ facts_from o → (on_outcome o w c ≡ accept (table_from o) w c) × Describes f (table_from o)
        go (rejected x) e d = absurd (cc)
        go (decoded t) e d = (ap (λ (n : ℕ). perform n t w c) (sym e), facts_describe f t d)

-- ---- the same for a call whose tests were made for this table

module _ (s : List ℕ) (f : Facts) (told : Ok f ≡ facts_of s) where
  pub table-known : (decode s ≡ decoded (table_of s)) × Describes f (table_of s)
  unfolding facts_of table_of
  table-known = go (decode s) told
    where
      go : (o : Outcome) → Ok f ≡ facts_from o → (o ≡ decoded (table_from o)) × Describes f (table_from o)
      go (rejected x) e = absurd (cc)
      go (decoded t) e = (refl, facts_describe f t e)

  module _ (w : List ℕ) (c : Call) where
    on-table : (n : ℕ) → n ≡ first_failed (call_tests (table_of s) w c) → call s w c ≡ perform n (table_of s) w c
    unfolding call on_table
    on-table n e = ap (λ (o : Outcome). on_outcome o w c) table-known.0 ∙ ap (λ (n : ℕ). perform n (table_of s) w c) (sym e)

    pub tests-refuse : (x : Refusal) → number_of x ≡ first_failed (call_tests (table_of s) w c) → call s w c ≡ refuse (number_of x) w c
    tests-refuse x e = on-table (number_of x) e ∙ some-refused w c (number_of x) (table_of s) (never-none x)

    pub tests-accept : 0 ≡ first_failed (call_tests (table_of s) w c) → call s w c ≡ accept (table_of s) w c
    tests-accept e = on-table 0 e

pub known-accepted : (s : List ℕ) → decode s ≡ decoded (table_of s) → accepted s ≡ true
unfolding accepted
known-accepted s e = ap is_decoded e
