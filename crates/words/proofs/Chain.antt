-- One section after the other: where a section is sound, what it read is its records by their places.
-- Assumes nothing.
use Prim.Native.Nat.{ℕ, zero, suc, ◌+◌, ◌*◌, ◌<◌, ◌≤◌}
use mathlib.Core.Path.{◌≡◌, refl, ap, ap₂, sym, ◌∙◌}
use mathlib.Core.List.{List, [], ◌∷◌}
use native.Mathlib.Omega.{arith}
use mathlib.Core.Bool.{cond}
use lib.Dec.{leb, eqb}
use lib.ListN.{length}
use borrow.Author.Rules.{rules}
use borrow.Author.Tests.{le-leb, lt-leb}
use Rattle.model.specs.Lists.{sum_of}
use Rattle.model.specs.Format.{count, disagreement, Read, got, Reader, Test, and_then, ◌>>=◌, done, times, read_record, u16, owned_count}
use Rattle.words.specs.Verdicts.{Verdict, verdict_of}
use Rattle.model.specs.Raw.{rows}
use Rattle.words.specs.Sums.{sum_from}
use Rattle.words.specs.declared.verdicts.Fault.{Fault}
use Rattle.std.proofs.Common.{Ok, Err}
use Rattle.model.proofs.RawLaws.{Says}
use Rattle.words.proofs.Laws.{verdict_stop, verdict-done, record-got, sound_record, times_got, then_sound, sound-got, record_in}

pub bind_stop : {A B : Type 0} (m : Reader A) (k : A → Reader B) (at : ℕ) (f : Fault) → Err f ≡ verdict_of (m at) → Err f ≡ verdict_of (◌>>=◌ m k at)
unfolding ◌>>=◌
bind_stop m k at f e = verdict_stop (m at) k f e

pub bind_done : {A B : Type 0} (m : Reader A) (f : A → B) (at : ℕ) (r : Verdict) → r ≡ verdict_of (m at) → r ≡ verdict_of (◌>>=◌ m (λ a. done (f a)) at)
unfolding ◌>>=◌
bind_done m f at r e = e ∙ sym (verdict-done (m at) f)

-- reading goes on with what was got
pub bind-got : {A B : Type 0} (m : Reader A) (k : A → Reader B) (at : ℕ) (a : A) (end next : ℕ) (y : Verdict) → Ok next ≡ verdict_of (m at) → m at ≡ got a end
    → y ≡ verdict_of (k a next) → y ≡ verdict_of (◌>>=◌ m k at)
unfolding ◌>>=◌ verdict_of
bind-got {A} m k at a end next y e g h =
    let z : next ≡ end = (let q : Ok next ≡ Ok end = e ∙ ap verdict_of g in cc) in
    h ∙ ap (λ (n : ℕ). verdict_of (k a n)) z ∙ ap (λ (r : Read A). verdict_of (and_then r k)) (sym g)

module _ {A B : Type 0} (s : List ℕ) (size : ℕ) (tests : ℕ → List Test) (says : ℕ → A) where
  pub record_on : (k : A → Reader B) (at : ℕ) (a : A) (next : ℕ) (y : Verdict) → Ok next ≡ verdict_of (read_record s size tests says at) → a ≡ says at
      → y ≡ verdict_of (k a next) → y ≡ verdict_of (◌>>=◌ (read_record s size tests says) k at)
  record_on k at a next y e d h =
      bind-got (read_record s size tests says) k at (says at) (at + size) next y e (record-got s size tests says at next e) (h ∙ ap (λ (x : A). verdict_of (k x next)) d)

  pub rows_on : (k : List A → Reader B) (n at next : ℕ) (y : Verdict) → Ok next ≡ verdict_of (times n (read_record s size tests says) at)
      → y ≡ verdict_of (k (rows says size at n) next) → y ≡ verdict_of (◌>>=◌ (times n (read_record s size tests says)) k at)
  rows_on k n at next y e h =
      bind-got (times n (read_record s size tests says)) k at (rows says size at n) (at + size * n) next y e (times_got s size tests says n at next e) h

-- the records of a section that is sound are within the table
module _ {A : Type 0} (s : List ℕ) (size : ℕ) (tests : ℕ → List Test) (says : ℕ → A) where
  times_within : (n at end : ℕ) → at ≤ length s → Ok end ≡ verdict_of (times n (read_record s size tests says) at) → at + size * n ≤ length s
  unfolding times
  times_within zero at end h e = omega arith
  times_within (suc n) at end h e =
      let one = read_record s size tests says in
      let first = then_sound (one at) (λ a next. and_then (times n one next) λ rest end. got (a ∷ rest) end) end e in
      let g : one at ≡ got (says at) (at + size) = record-got s size tests says at first.0 first.1 in
      let e₁ : verdict_of (times (suc n) one at) ≡ verdict_of (times n one (at + size)) =
      ap (λ (m : Read A). verdict_of (and_then m (λ a next. and_then (times n one next) λ rest end. got (a ∷ rest) end))) g ∙ verdict-done (times n one (at + size)) (λ rest. says at ∷ rest) in
      let w = (sound_record s size tests says at first.0 first.1).0 in
      let y : at + size + size * n ≤ length s = times_within n (at + size) end w (e ∙ e₁) in
      omega arith

  pub times_in : (n at end : ℕ) → at ≤ length s → Ok end ≡ verdict_of (times n (read_record s size tests says) at) → end ≤ length s
  unfolding verdict_of
  times_in n at end h e =
      let y : end ≡ at + size * n = (let q : Ok end ≡ Ok (at + size * n) = e ∙ ap verdict_of (times_got s size tests says n at end e) in cc) in
      omega (arith, times_within n at end h e)

-- ---- what is said of a reader, where nothing was refused

pub says-sound : {A : Type 0} (m : Read A) (a : A) (end len next : ℕ) → Says m a end len → Ok next ≡ verdict_of m → (m ≡ got a end) × (next ≡ end) × (end ≤ len)
says-sound m a end len next h e = sound-got m next e λ b g. let y = h b next g in (g ∙ ap₂ got y.0 y.1, y.1, y.2)

-- where it ended is in the table
pub says_in : {A : Type 0} (m : Read A) (a : A) (end len next : ℕ) → Says m a end len → Ok next ≡ verdict_of m → next ≤ len
says_in m a end len next h e = let y = says-sound m a end len next h e in let l = y.2 in let q = y.1 in omega arith

-- reading goes on with what is said
pub says_on : {A B : Type 0} (m : Reader A) (k : A → Reader B) (at : ℕ) (a : A) (end len next : ℕ) (y : Verdict) → Says (m at) a end len → Ok next ≡ verdict_of (m at)
    → y ≡ verdict_of (k a next) → y ≡ verdict_of (◌>>=◌ m k at)
says_on m k at a end len next y h e f = bind-got m k at a end next y e (says-sound (m at) a end len next h e).0 f

-- ---- the count of an owned section, given what its owners own together

module _ {B : Type 0} (s : List ℕ) (hi at sum total : ℕ) (k : ℕ → Reader B) (own : sum ≡ total) where
  pub count_stop : (f : Fault) → Err f ≡ verdict_of (owned_count s hi sum at) → Err f ≡ verdict_of (◌>>=◌ (owned_count s hi total) k at)
  count_stop f e = bind_stop (owned_count s hi total) k at f (e ∙ ap (λ (x : ℕ). verdict_of (owned_count s hi x at)) own)

  pub count_on : (next : ℕ) (y : Verdict) → Ok next ≡ verdict_of (owned_count s hi sum at) → y ≡ verdict_of (k (u16 s at) next) → y ≡ verdict_of (◌>>=◌ (owned_count s hi total) k at)
  count_on next y e h =
      record_on s 2 (λ at. (leb (u16 s at) hi, count, at) ∷ (eqb (u16 s at) total, disagreement, at) ∷ []) (u16 s) k at (u16 s at) next y
      (e ∙ ap (λ (x : ℕ). verdict_of (owned_count s hi x at)) own) refl h

-- the same where the sum is one over records in a row
module _ {A B : Type 0} (f : A → ℕ) (says : ℕ → A) (size base n : ℕ) (s : List ℕ) (hi at sum : ℕ) (k : ℕ → Reader B) (own : sum ≡ sum_from 0 f says size base n) where
  total_is : sum ≡ sum_of f (rows says size base n)
  unfolding sum_from
  total_is = let y : sum ≡ 0 + sum_of f (rows says size base n) = own in omega arith

  pub owned_stop : (g : Fault) → Err g ≡ verdict_of (owned_count s hi sum at) → Err g ≡ verdict_of (◌>>=◌ (owned_count s hi (sum_of f (rows says size base n))) k at)
  owned_stop g e = count_stop s hi at sum (sum_of f (rows says size base n)) k total_is g e

  pub owned_on : (next : ℕ) (y : Verdict) → Ok next ≡ verdict_of (owned_count s hi sum at) → y ≡ verdict_of (k (u16 s at) next) → y ≡ verdict_of (◌>>=◌ (owned_count s hi (sum_of f (rows says size base n))) k at)
  owned_on next y e h = count_on s hi at sum (sum_of f (rows says size base n)) k total_is next y e h

pub ruleset chain = (rules, record_in, bind_stop, bind_done, record_on, rows_on, owned_stop, owned_on)

-- where a section that is sound ends
pub ruleset rooms = (rules, record_in)

-- a choice, from what the test says of the numbers
module _ {A : Type 0} (x y r : A) where
  pub when_le : (a b : ℕ) → a ≤ b → r ≡ x → r ≡ cond (leb a b) x y
  when_le a b h e = rw (le-leb a b h) e

  pub when_gt : (a b : ℕ) → b < a → r ≡ y → r ≡ cond (leb a b) x y
  when_gt a b h e = rw (lt-leb a b h) e

pub ruleset whens = (rules, when_le, when_gt)
