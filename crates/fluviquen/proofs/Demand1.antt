-- Demand 1: a refused call answers count 0 or no figure, and nothing lent has changed.
-- Assumes nothing.
use mathlib.Core.Path.{◌≡◌, refl, sym, ap, ◌∙◌}
use mathlib.Core.List.{List}
use Prim.Native.Nat.{ℕ, zero, suc, ◌*◌}
use native.Mathlib.Omega.{arith}
use lib.ListN.{take, drop}
use contract.Lifetimes.{Lfts}
use denote.Triple.Clauses.{AtExit}
use borrow.Fn.Kinds.{Dens, ended_of, res_t}
use Rattle.model.specs.Lists.{first_failed}
use Rattle.model.specs.Table.{Table}
use Rattle.model.specs.Format.{Outcome, rejected, decoded, decode, number_of, table_of}
use Rattle.model.specs.Register.{illegal_total, Call, reset, start, stop, sample, ask_counter, ask_unknown, ask_item, ask_group, Response, Effect, refused_response, refuse, call_tests, accept, perform, on_table, on_outcome, call}
use Rattle.model.specs.Reference.{register_after}
use Rattle.batch.specs.Calls.{calls_from}
use Rattle.batch.proofs.Listed.{batch-is}
use Rattle.fluviquen.proofs.fluviquen_samples.Kinds as SamplesK
use Rattle.fluviquen.proofs.fluviquen_samples.Reads as Samples
use Rattle.fluviquen.proofs.Steps.{Step, step_is}

numbered : (t : Table) (w : List ℕ) (c : Call) → (accept t w c).response.number ≡ 0
unfolding accept
numbered t w reset = refl
numbered t w start = refl
numbered t w stop = refl
numbered t w (sample s r) = refl
numbered t w (ask_counter i) = refl
numbered t w (ask_unknown i) = refl
numbered t w (ask_item i) = refl
numbered t w ask_group = refl

refused-number : (n : ℕ) (w : List ℕ) (c : Call) → (refuse n w c).response.number ≡ n
refused-number n w reset = refl
refused-number n w start = refl
refused-number n w stop = refl
refused-number n w (sample s r) = refl
refused-number n w (ask_counter i) = refl
refused-number n w (ask_unknown i) = refl
refused-number n w (ask_item i) = refl
refused-number n w ask_group = refl

refuses : (k n : ℕ) (t : Table) (w : List ℕ) (c : Call) → (perform k t w c).response.number ≡ suc n → perform k t w c ≡ refuse (suc n) w c
refuses zero n t w c h = absurd (omega (arith, sym (numbered t w c) ∙ h))
refuses (suc k) n t w c h = ap (λ (x : ℕ). refuse x w c) (sym (refused-number (suc k) w c) ∙ h)

refused : (s w : List ℕ) (c : Call) (n : ℕ) → (call s w c).response.number ≡ suc n → call s w c ≡ refuse (suc n) w c
unfolding call on_table
refused s w c n h = go (decode s) h
  where
    go : (o : Outcome) → (on_outcome o w c).response.number ≡ suc n → on_outcome o w c ≡ refuse (suc n) w c
    go (rejected f) h = ap (λ (x : ℕ). refuse x w c) (sym (refused-number (number_of f.class) w c) ∙ h)
    go (decoded t) h = refuses (first_failed (call_tests t w c)) n t w c h

pub demand1 : (s w : List ℕ) (c : Call) (x : Response) (after : List ℕ) → Step s w c x after → (n : ℕ) → x.number ≡ suc n
    → (after ≡ w) × (x ≡ refused_response (suc n) c)
demand1 s w c x after h n e =
    let k = step_is s w c x after h in
    let z = sym k ∙ refused s w c n (ap (λ (f : Effect). f.response.number) k ∙ e) in
    (ap (λ (f : Effect). f.words) z, ap (λ (f : Effect). f.response) z)

-- A batch, refused or not, leaves the register as the samples that it took do, and the reports' words beyond theirs as they came.
pub demand1-batch : (κs : Lfts 5) (a : Dens κs SamplesK.ps) (r : (res_t SamplesK.r κs).Denot) (e : AtExit (ended_of 5 SamplesK.ps SamplesK.r) κs) → Samples.Learnt κs a r e
    → (let s = a.0.now in
    let q = a.1.1.1.0.now in
    let taken = e.1.1.1.1.0.now in
    let n = taken * illegal_total (table_of s) in
    (register_after s a.1.0.now (take taken (calls_from (decode s) a.1.1.0.now q)) ≡ e.1.0.now) × (drop n e.1.1.1.0.now ≡ drop n q))
demand1-batch κs a r e p =
    let b = batch-is a.0.now a.1.0.now a.1.1.0.now a.1.1.1.0.now in
    rw (p.1.0, p.1.1.0, p.1.1.1) (b.kept, b.stays)
