-- The model's readers, with what they read forgotten: laws in the form in which `search` applies them at the needs of code that reads a table.
-- x is the answer from the loop's start; its invariant says that it is the answer of what is left.
-- Assumes nothing.
use Rattle.std.proofs.Common.{Result, Ok, Err}
use Rattle.std.specs.Result.{IsErr, IsErrAnd}
use Prim.Native.Nat.{ℕ, zero, suc, ◌+◌, ◌*◌, ◌-◌, ◌<◌, ◌≤◌}
use mathlib.Core.Path.{◌≡◌, refl, ap, sym, ◌∙◌}
use mathlib.Core.Bool.{Bool, true, false, ◌&&◌}
use mathlib.Core.List.{List, [], ◌∷◌, ◌++◌}
use native.Mathlib.Nat.{sub-zero}
use native.Mathlib.Omega.{arith}
use lib.Dec.{leb}
use lib.ListN.{length}
use borrow.Author.Rules.{rules}
use borrow.Author.Tests.{leb-true, le-leb}
use Rattle.model.specs.Format.{cut, Read, refused, got, Reader, Test, tested, and_then, done, times, each, read_record}
use Rattle.model.specs.Format as model
use Rattle.model.specs.Lists.{sum_of}
use Rattle.model.specs.Raw.{rows}
use Rattle.model.proofs.Booleans.{false-true}
use Rattle.model.proofs.Lists.{none_left, one_left}
use Rattle.words.specs.Sums.{sum_from}
use Rattle.words.specs.Verdicts.{Verdict, class_of, fault_at, verdict_of, verdict_in, unless_fault, pass}
use Rattle.words.specs.Verdicts as words
use Rattle.words.specs.declared.verdicts.Fault.{Fault}
use Rattle.words.specs.declared.verdicts.FaultClass.TheVariants.{Cut}

-- ---- tests and records

pub verdict-tested : {A : Type 0} (tests : List Test) (r : Read A) → verdict_of (tested tests r) ≡ verdict_in tests (verdict_of r)
unfolding tested verdict_of verdict_in
verdict-tested [] r = refl
verdict-tested ((true, class, at) ∷ tests) r = verdict-tested tests r
verdict-tested ((false, class, at) ∷ tests) r = refl

pub verdict_in-append : {A : Type 0} (xs ys : List Test) (f : Result A Fault) → verdict_in (xs ++ ys) f ≡ verdict_in xs (verdict_in ys f)
unfolding verdict_in
verdict_in-append [] ys f = refl
verdict_in-append ((true, class, at) ∷ xs) ys f = verdict_in-append xs ys f
verdict_in-append ((false, class, at) ∷ xs) ys f = refl

-- what a `?` hands on
pub handed : {A : Type 0} (r : Result A Fault) (f : Fault) → IsErr r × IsErrAnd r (λ y. y ≡ f) → r ≡ Err f
handed (Ok a) f h = absurd h.1
handed (Err e) f h = ap (λ (q : Fault). Err q) h.1

-- the first of some tests fails: that is the verdict
pub test_stop : {A : Type 0} (ok : Bool) (class : model.FaultClass) (at : ℕ) (tests : List Test) (rest : Result A Fault) (f : Fault)
    → Err f ≡ words.tested ok (class_of class) at → Err f ≡ verdict_in ((ok, class, at) ∷ tests) rest
unfolding verdict_in
test_stop true class at tests rest f h = absurd (cc)
test_stop false class at tests rest f h = ap (λ (q : Fault). Err q) (let y : f ≡ fault_at (class_of class) at = cc in y)

-- it passes: the verdict is that of the others
pub test_on : {A : Type 0} (ok : Bool) (class : model.FaultClass) (at : ℕ) (tests : List Test) (rest : Result A Fault) (r : Result A Fault)
    → pass ≡ words.tested ok (class_of class) at → r ≡ verdict_in tests rest → r ≡ verdict_in ((ok, class, at) ∷ tests) rest
unfolding verdict_in
test_on true class at tests rest r h e = e
test_on false class at tests rest r h e = absurd (cc)

pub tests_done : {A : Type 0} (rest r : Result A Fault) → r ≡ rest → r ≡ verdict_in [] rest
unfolding verdict_in
tests_done rest r e = e

pub test_last : (ok : Bool) (class : model.FaultClass) (at : ℕ) (r : Result Unit Fault) → r ≡ words.tested ok (class_of class) at → r ≡ verdict_in ((ok, class, at) ∷ []) pass
unfolding verdict_in
test_last ok class at r e = e

-- tests made together, and then others
pub tests_stop : {A : Type 0} (tests : List Test) (rest : Result A Fault) (f : Fault) → Err f ≡ verdict_in tests pass → Err f ≡ verdict_in tests rest
unfolding verdict_in
tests_stop [] rest f h = absurd (cc)
tests_stop ((true, class, at) ∷ tests) rest f h = tests_stop tests rest f h
tests_stop ((false, class, at) ∷ tests) rest f h = ap (λ (q : Fault). Err q) (let y : f ≡ fault_at (class_of class) at = cc in y)

pub tests_on : {A : Type 0} (tests : List Test) (rest : Result A Fault) (r : Result A Fault) → pass ≡ verdict_in tests pass → r ≡ rest → r ≡ verdict_in tests rest
unfolding verdict_in
tests_on [] rest r h e = e
tests_on ((true, class, at) ∷ tests) rest r h e = tests_on tests rest r h e
tests_on ((false, class, at) ∷ tests) rest r h e = absurd (cc)

pub ruleset tests = (rules, test_stop, test_on, test_last, tests_done)

pub verdict_record : {A : Type 0} (s : List ℕ) (size : ℕ) (says-tests : ℕ → List Test) (says : ℕ → A) (at : ℕ)
    → verdict_of (read_record s size says-tests says at) ≡ unless_fault (leb (at + size) (length s)) Cut at (verdict_in (says-tests at) (Ok (at + size)))
unfolding read_record verdict_of verdict_in
verdict_record s size says-tests says at = verdict-tested ((leb (at + size) (length s), cut, at) ∷ says-tests at) (got (says at) (at + size))

module _ {A : Type 0} (s : List ℕ) (size : ℕ) (says-tests : ℕ → List Test) (says : ℕ → A) (at : ℕ) (r : Verdict) where
  -- a record that is cut
  pub record_cut : (f : Fault) → Err f ≡ unless_fault (leb (at + size) (length s)) Cut at (Ok (at + size)) → Err f ≡ verdict_of (read_record s size says-tests says at)
  unfolding verdict_in read_record verdict_of
  record_cut f h = go (leb (at + size) (length s)) h ∙ sym (verdict_record s size says-tests says at)
    where
      go : (b : Bool) → Err f ≡ unless_fault b Cut at (Ok (at + size)) → Err f ≡ unless_fault b Cut at (verdict_in (says-tests at) (Ok (at + size)))
      go true h = absurd (cc)
      go false h = h

  -- one that is whole: its tests
  pub record_whole : at + size ≤ length s → r ≡ verdict_in (says-tests at) (Ok (at + size)) → r ≡ verdict_of (read_record s size says-tests says at)
  record_whole h e = e ∙ sym (rw (le-leb (at + size) (length s) h) at (verdict_record s size says-tests says at))

pub ruleset records = (tests, record_cut, record_whole)

-- whether ok holds and all tests pass
unfoldable pub passing : Bool → List Test → Bool
passing ok [] = ok
passing ok ((passes, class, at) ∷ tests) = passing (ok && passes) tests

not-passing : (tests : List Test) → passing false tests ≡ true → ⊥
unfolding passing
not-passing [] e = false-true e
not-passing ((passes, class, at) ∷ tests) e = not-passing tests e

verdict-passing : {A : Type 0} (tests : List Test) (rest : Result A Fault) → passing true tests ≡ true → verdict_in tests rest ≡ rest
unfolding passing verdict_in
verdict-passing [] rest e = refl
verdict-passing ((true, class, at) ∷ tests) rest e = verdict-passing tests rest e
verdict-passing ((false, class, at) ∷ tests) rest e = absurd (not-passing tests e)

-- where all tests pass, the verdict is what comes after them
pub passed : {A : Type 0} (tests : List Test) (rest r : Result A Fault) (ok : Bool) → r ≡ rest → ok ≡ true → ok ≡ passing true tests → r ≡ verdict_in tests rest
passed tests rest r ok e t h = e ∙ sym (verdict-passing tests rest (sym h ∙ t))

-- ---- a reader that got something

-- a fault stays
pub verdict_stop : {A B : Type 0} (m : Read A) (k : A → Reader B) (f : Fault) → Err f ≡ verdict_of m → Err f ≡ verdict_of (and_then m k)
unfolding verdict_of
verdict_stop (refused g) k f e = e
verdict_stop (got a at) k f e = absurd (cc)

-- what is done with what was read, and is no reading, is forgotten
pub verdict-done : {A B : Type 0} (m : Read A) (f : A → B) → verdict_of (and_then m (λ a. done (f a))) ≡ verdict_of m
unfolding verdict_of
verdict-done (refused f) g = refl
verdict-done (got a at) g = refl

-- what was got
pub sound-got : {A P : Type 0} (m : Read A) (end : ℕ) → Ok end ≡ verdict_of m → ((a : A) → m ≡ got a end → P) → P
unfolding verdict_of
sound-got (refused f) end e k = absurd (cc)
sound-got (got a at) end e k = let y : at ≡ end = cc in k a (ap (got a) y)

-- where two are got in turn, the first is
pub then_sound : {A B : Type 0} (m : Read A) (k : A → Reader B) (end : ℕ) → Ok end ≡ verdict_of (and_then m k) → (next : ℕ) × (Ok next ≡ verdict_of m)
unfolding verdict_of
then_sound (refused f) k end e = absurd (cc)
then_sound (got a at) k end e = (at, refl)

tested-got : {A : Type 0} (tests : List Test) (r : Read A) (end : ℕ) → Ok end ≡ verdict_of (tested tests r) → tested tests r ≡ r
unfolding tested verdict_of
tested-got [] r end e = refl
tested-got ((true, class, at) ∷ tests) r end e = tested-got tests r end e
tested-got ((false, class, at) ∷ tests) r end e = absurd (cc)

module _ {A : Type 0} (s : List ℕ) (size : ℕ) (says-tests : ℕ → List Test) (says : ℕ → A) (at end : ℕ) (e : Ok end ≡ verdict_of (read_record s size says-tests says at)) where
  -- a record as it was read
  pub record-got : read_record s size says-tests says at ≡ got (says at) (at + size)
  unfolding read_record
  record-got = tested-got ((leb (at + size) (length s), cut, at) ∷ says-tests at) (got (says at) (at + size)) end e

  record_end : end ≡ at + size
  unfolding verdict_of
  record_end = let y : Ok end ≡ Ok (at + size) = e ∙ ap verdict_of record-got in cc

  -- it ends within the table
  pub sound_record : (at + size ≤ length s) × (end ≡ at + size)
  unfolding verdict_of read_record tested
  sound_record = (go (leb (at + size) (length s)) refl e, record_end)
    where
      go : (b : Bool) → leb (at + size) (length s) ≡ b → Ok end ≡ verdict_of (tested ((b, cut, at) ∷ says-tests at) (got (says at) (at + size))) → at + size ≤ length s
      go true q h = leb-true _ _ q
      go false q h = absurd (cc)

  pub record_in : end ≤ length s
  record_in = omega (arith, sound_record.0, sound_record.1)

-- ---- one after the other

-- a record and those after it
pub verdict-cons_stop : {A : Type 0} (m : Read A) (k : ℕ → Read (List A)) (f : Fault) → Err f ≡ verdict_of m
    → Err f ≡ verdict_of (and_then m λ a next. and_then (k next) λ rest end. got (a ∷ rest) end)
verdict-cons_stop m k f e = verdict_stop m (λ a next. and_then (k next) λ rest end. got (a ∷ rest) end) f e

pub verdict-cons_on : {A : Type 0} (m : Read A) (k : ℕ → Read (List A)) (next : ℕ) → Ok next ≡ verdict_of m
    → verdict_of (and_then m λ a next. and_then (k next) λ rest end. got (a ∷ rest) end) ≡ verdict_of (k next)
unfolding verdict_of
verdict-cons_on (refused f) k next e = absurd (cc)
verdict-cons_on (got a at) k next e = verdict-done (k at) (λ rest. a ∷ rest) ∙ ap (λ (n : ℕ). verdict_of (k n)) (let y : at ≡ next = cc in y)

module _ {A : Type 0} (one : Reader A) where
  pub times_start : (m at : ℕ) → verdict_of (times m one at) ≡ verdict_of (times (m - 0) one at)
  times_start m at = rw sub-zero

  module _ (m i at : ℕ) (x : Verdict) (inv : x ≡ verdict_of (times (m - i) one at)) where
    pub times-done : m ≤ i → Ok at ≡ x
    unfolding times verdict_of
    times-done h = sym (rw (none_left m i h) at inv)

    pub times-stop : (f : Fault) → i < m → Err f ≡ verdict_of (one at) → Err f ≡ x
    unfolding times
    times-stop f h e = verdict-cons_stop (one at) (times (m - (i + 1)) one) f e ∙ sym (rw (one_left m i h) at inv)

    pub times-on : (next : ℕ) → i < m → Ok next ≡ verdict_of (one at) → x ≡ verdict_of (times (m - (i + 1)) one next)
    unfolding times
    times-on next h e = (rw (one_left m i h) at inv) ∙ verdict-cons_on (one at) (times (m - (i + 1)) one) next e

pub ruleset timess = (rules, record_in, times_start, times-done, times-stop, times-on)

-- ---- what was read, where nothing was refused: the records by their places

module _ {A : Type 0} (s : List ℕ) (size : ℕ) (says-tests : ℕ → List Test) (says : ℕ → A) where
  pub times_got : (n at end : ℕ) → Ok end ≡ verdict_of (times n (read_record s size says-tests says) at)
      → times n (read_record s size says-tests says) at ≡ got (rows says size at n) (at + size * n)
  unfolding times rows
  times_got zero at end e = ap (got []) (let y : at ≡ at + size * 0 = omega arith in y)
  times_got (suc n) at end e =
      let one = read_record s size says-tests says in
      let first = then_sound (one at) (λ a next. and_then (times n one next) λ rest end. got (a ∷ rest) end) end e in
      let g : one at ≡ got (says at) (at + size) = record-got s size says-tests says at first.0 first.1 in
      let step : times (suc n) one at ≡ and_then (times n one (at + size)) (λ rest end. got (says at ∷ rest) end) =
      ap (λ (m : Read A). and_then m (λ a next. and_then (times n one next) λ rest end. got (a ∷ rest) end)) g in
      let e₁ : Ok end ≡ verdict_of (times n one (at + size)) = e ∙ ap verdict_of step ∙ verdict-done (times n one (at + size)) (λ rest. says at ∷ rest) in
      step ∙ ap (λ (m : Read (List A)). and_then m (λ rest end. got (says at ∷ rest) end)) (times_got n (at + size) end e₁)
      ∙ ap (got (says at ∷ rows says size (at + size) n)) (let y : at + size + size * n ≡ at + size * suc n = omega arith in y)

-- ---- sums over records, and what each of some records owns

module _ {A : Type 0} (f : A → ℕ) (says : ℕ → A) (size : ℕ) where
  pub sums_start : (m at : ℕ) → sum_from 0 f says size at m ≡ sum_from 0 f says size at (m - 0)
  sums_start m at = rw sub-zero

  module _ (m i at x sum : ℕ) (inv : x ≡ sum_from sum f says size at (m - i)) where
    pub sums-done : m ≤ i → sum ≡ x
    unfolding rows sum_of sum_from
    sums-done h = let y : x ≡ sum + 0 = rw (none_left m i h) at inv in omega arith

    pub sums_on : (r : ℕ) → i < m → r ≡ f (says at) → x ≡ sum_from (sum + r) f says size (at + size) (m - (i + 1))
    unfolding rows sum_of sum_from
    sums_on r h e = let y : x ≡ sum + (f (says at) + sum_of f (rows says size (at + size) (m - (i + 1)))) = rw (one_left m i h) at inv in omega arith

pub ruleset sums = (rules, sums_start, sums-done, sums_on)

-- what each of some owners owns, for any list of owners
module _ {A B : Type 0} (one : A → Reader B) (os : List A) (at : ℕ) (x : Verdict) (inv : x ≡ verdict_of (each one os at)) where
  pub owners_done : os ≡ [] → Ok at ≡ x
  unfolding each verdict_of
  owners_done h = sym (rw h at inv)

  pub owners_stop : (o : A) (rest : List A) (f : Fault) → os ≡ o ∷ rest → Err f ≡ verdict_of (one o at) → Err f ≡ x
  unfolding each
  owners_stop o rest f h e = verdict-cons_stop (one o at) (each one rest) f e ∙ sym (rw h at inv)

  pub owners_on : (o : A) (rest : List A) (next : ℕ) → os ≡ o ∷ rest → Ok next ≡ verdict_of (one o at) → x ≡ verdict_of (each one rest next)
  unfolding each
  owners_on o rest next h e = (rw h at inv) ∙ verdict-cons_on (one o at) (each one rest) next e

module _ {A B : Type 0} (one : A → Reader B) (says : ℕ → A) (size : ℕ) where
  pub each_start : (m place at : ℕ) → verdict_of (each one (rows says size place m) at) ≡ verdict_of (each one (rows says size place (m - 0)) at)
  each_start m place at = rw sub-zero

  module _ (m i place at : ℕ) (x : Verdict) (inv : x ≡ verdict_of (each one (rows says size place (m - i)) at)) where
    pub each-done : m ≤ i → Ok at ≡ x
    unfolding each rows verdict_of
    each-done h = sym (rw (none_left m i h) at inv)

    pub each-stop : (f : Fault) → i < m → Err f ≡ verdict_of (one (says place) at) → Err f ≡ x
    unfolding each rows
    each-stop f h e = verdict-cons_stop (one (says place) at) (each one (rows says size (place + size) (m - (i + 1)))) f e ∙ sym (rw (one_left m i h) at inv)

    pub each_on : (next : ℕ) → i < m → Ok next ≡ verdict_of (one (says place) at) → x ≡ verdict_of (each one (rows says size (place + size) (m - (i + 1))) next)
    unfolding each rows
    each_on next h e = (rw (one_left m i h) at inv) ∙ verdict-cons_on (one (says place) at) (each one (rows says size (place + size) (m - (i + 1)))) next e

pub ruleset eachs = (rules, each_start, each-done, each-stop, each_on)
