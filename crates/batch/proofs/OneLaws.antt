-- One sample, as a batch of one.
-- Assumes nothing.
use mathlib.Core.Path.{◌≡◌, refl, sym, ap, ◌∙◌, subst}
use mathlib.Core.Bool.{Bool, false, cond}
use mathlib.Core.List.{List, ◌∷◌}
use Prim.Native.Nat.{ℕ, zero, suc, ◌+◌, ◌*◌}
use native.Mathlib.Omega.{arith}
use lib.Dec.{eqb}
use lib.ListN.{length, take, drop, get_or, length-drop, take-append-drop}
use lib.Seq.{take_all}
use borrow.Author.Tests.{ne_eqb}
use Rattle.model.specs.Lists.{first_failed}
use Rattle.model.specs.Table.{Table}
use Rattle.model.specs.Format.{table_of}
use Rattle.model.specs.Register.{point_total, illegal_total, Effect, sample, sample_tests, call_tests, refuse, call}
use Rattle.table.specs.declared.answer.Facts.{Facts}
use Rattle.refusals.specs.Numbers.{number_of}
use Rattle.refusals.specs.declared.refusal.Refusal.{Refusal}
use Rattle.refusals.specs.declared.refusal.Refusal.TheVariants.{Length}
use Rattle.refusals.proofs.RefusalLaws.{after_stop, after_on}
use Rattle.refusals.proofs.CallLaws.{table_refuses, table-known, tests-refuse}
use Rattle.turns.specs.declared.Taken.{Taken}
use Rattle.batch.specs.Tested.{Passes, Fails, table, register}
use Rattle.turns.specs.Batch.{Batch, ended, sample_size, and_then}
use Rattle.turns.specs.Turns.{Done, Took, turns}
use Rattle.turns.proofs.TurnLaws.{turns-none, turns_one}

-- the first test that fails gives its number
fails : (b : Bool) (rest : List (Bool × ℕ)) → b ≡ false → first_failed ((b, 12) ∷ rest) ≡ 12
unfolding first_failed
fails b rest e = ap (λ (x : Bool). cond x (first_failed rest) 12) e

module _ (s w v r : List ℕ) where
  -- a test fails that all samples have in common
  pub fails-call : (x : Refusal) → Fails s w x → call s w (sample v r) ≡ refuse (number_of x) w (sample v r)
  unfolding call_tests
  fails-call x (table f told) = table_refuses s w (sample v r) f told
  fails-call x (register f told y known) =
      let t = table_of s in
      tests-refuse s f told w (sample v r) y (after_stop f w y known t (table-known s f told).1 (sample_tests t v r (eqb (get_or w 0 0) 1) (get_or w 1 0)))

  pub wrong_size : (f : Facts) → Passes s w f → (length v ≡ 4 + 2 * f.points → ⊥) → call s w (sample v r) ≡ refuse (number_of Length) w (sample v r)
  unfolding call_tests
  wrong_size f p h =
      let t = table_of s in
      let d = (table-known s f p.told).1 in
      let first = after_on f w p.register t d (sample_tests t v r (eqb (get_or w 0 0) 1) (get_or w 1 0)) in
      let no : eqb (length v) (4 + 2 * point_total t) ≡ false = ne_eqb (length v) (4 + 2 * point_total t) (λ e. h (e ∙ ap (λ (k : ℕ). 4 + 2 * k) (sym d.points))) in
      tests-refuse s f p.told w (sample v r) Length (sym (first ∙ fails _ _ no))

-- one sample and nothing after it
ends : (k n : ℕ) (e : Effect) → n ≡ e.response.number
    → (let b = and_then k n e (ended 0 e.words (drop k e.response.report)) in
    (b.number ≡ n) × (b.words ≡ e.words) × (b.reports ≡ e.response.report))
ends k zero e h = (refl, refl, take-append-drop k e.response.report)
ends k (suc n) e h = (refl, refl, refl)

module _ (s w v r : List ℕ) (size : length v ≡ sample_size (table_of s)) where
  abbrev t : Table
  t = table_of s

  abbrev e : Effect
  e = call s w (sample v r)

  whole : turns s t w v r ≡ and_then (illegal_total t) e.response.number e (ended 0 e.words (drop (illegal_total t) e.response.report))
  whole =
      let l : length (drop (sample_size t) v) ≡ 0 = omega (arith, length-drop (sample_size t) v, size) in
      let this : take (sample_size t) v ≡ v = take_all (sample_size t) v (omega (arith, size)) in
      subst (λ (u : List ℕ). turns s t w v r ≡ (let x = call s w (sample u r) in and_then (illegal_total t) x.response.number x (turns s t x.words (drop (sample_size t) v) (drop (illegal_total t) x.response.report)))) this
      (turns_one s t w v r (omega (arith, size)))
      ∙ ap (and_then (illegal_total t) e.response.number e) (turns-none s t e.words (drop (sample_size t) v) (drop (illegal_total t) e.response.report) l)

  pub one_done : (a : Taken) (w' r' : List ℕ) → Took (turns s t w v r) a w' r' → Done e a.end w' r'
  one_done a w' r' d =
      let b = ends (illegal_total t) e.response.number e refl in
      record {
        number = d.number ∙ ap (λ (x : Batch). x.number) whole ∙ b.0;
        words = d.words ∙ ap (λ (x : Batch). x.words) whole ∙ b.1;
        report = d.reports ∙ ap (λ (x : Batch). x.reports) whole ∙ b.2;
      }
