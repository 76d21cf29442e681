-- A batch is the list of its sample calls: as responses they have what its caller reads of the batch, and they leave the register as it does.
-- Assumes nothing.
use mathlib.Core.Path.{◌≡◌, refl, sym, ap, ap₂, ◌∙◌, subst}
use mathlib.Core.List.{List, [], ◌∷◌, ◌++◌}
use Prim.Native.Nat.{ℕ, zero, suc, ◌+◌, ◌*◌, ◌≤◌}
use native.Mathlib.Omega.{arith}
use native.Mathlib.Nat.{suc-mul, zero-mul, add_comm}
use lib.ListN.{length, take, drop, take-append-drop}
use lib.Seq.{take_at, drop_at, drop-append-add, drop-drop, length-take-le}
use Rattle.model.specs.Lists.{first_failed}
use Rattle.model.specs.Table.{Table}
use Rattle.model.specs.Format.{number_of, Outcome, rejected, decoded, decode, table_from, table_of}
use Rattle.model.specs.Register.{illegal_total, Call, sample, ask_group, Answer, nothing, Response, Effect, call_tests, accept, perform, on_table, on_outcome, call}
use Rattle.model.specs.Reference.{register_responses, register_after}
use Rattle.model.proofs.Sections.{some_number}
use Rattle.turns.specs.Batch.{Batch, ended, sample_size, and_then, in_turn, batch_from, batch}
use Rattle.batch.specs.Calls.{cut_calls, calls_from, first_calls, answered, beyond, responses_read, batch_responses}
use Rattle.turns.proofs.TurnLaws.{call_is, rest-kept, report-long, then-refused}

-- the batch b stands for the first of the calls cs, k words for each report
record Listed (s w : List ℕ) (k : ℕ) (cs : List Call) (r : List ℕ) (b : Batch) : Type 0 where
  responses : register_responses s w (first_calls b.number b.taken cs) ≡ responses_read k b.number b.taken r b.reports
  words : register_after s w (first_calls b.number b.taken cs) ≡ b.words
  kept : register_after s w (take b.taken cs) ≡ b.words
  stays : drop (b.taken * k) b.reports ≡ drop (b.taken * k) r

-- ---- one call

no_answer : (s w v r : List ℕ) → (call s w (sample v r)).response.answer ≡ nothing
unfolding call on_table accept
no_answer s w v r = go (decode s)
  where
    done : (n : ℕ) (t : Table) → (perform n t w (sample v r)).response.answer ≡ nothing
    done zero t = refl
    done (suc n) t = refl

    go : (o : Outcome) → (on_outcome o w (sample v r)).response.answer ≡ nothing
    go (rejected f) = refl
    go (decoded t) = done (first_failed (call_tests t w (sample v r))) t

response-is : (s w v r : List ℕ) (m : ℕ) → (call s w (sample v r)).response.number ≡ m → (call s w (sample v r)).response ≡ answered m (call s w (sample v r)).response.report
response-is s w v r m e =
    let p = (call s w (sample v r)).response.report in
    ap₂ (λ (n : ℕ) (a : Answer). record { number = n; answer = a; report = p }) e (no_answer s w v r)

-- a refused sample leaves words and report
leaves : (s : List ℕ) (t : Table) → decode s ≡ decoded t → (w v r : List ℕ) → ((call s w (sample v r)).response.number ≡ 0 → ⊥)
    → ((call s w (sample v r)).words ≡ w) × ((call s w (sample v r)).response.report ≡ r)
unfolding accept
leaves s t known w v r h = rw (call_is s t known w v r) (go (first_failed (call_tests t w (sample v r))) (λ z. h (ap (λ (e : Effect). e.response.number) (call_is s t known w v r) ∙ z)))
  where
    go : (n : ℕ) → ((perform n t w (sample v r)).response.number ≡ 0 → ⊥) → ((perform n t w (sample v r)).words ≡ w) × ((perform n t w (sample v r)).response.report ≡ r)
    go zero y = absurd (y refl)
    go (suc n) y = (refl, refl)

first_more : (n taken : ℕ) (c : Call) (cs : List Call) → first_calls n (suc taken) (c ∷ cs) ≡ c ∷ first_calls n taken cs
first_more zero taken c cs = refl
first_more (suc n) taken c cs = refl

first_none : (n : ℕ) → first_calls n 0 [] ≡ []
first_none zero = refl
first_none (suc n) = refl

beyond-is : (n : ℕ) (r after : List ℕ) → (n ≡ 0 → after ≡ r) → beyond n r after ≡ r
beyond-is zero r after h = h refl
beyond-is (suc n) r after h = refl

-- one call, and then the rest if it was accepted
module _ (s w v r : List ℕ) (k : ℕ) (rest : List Call) (b : Batch) where
  abbrev e : Effect
  e = call s w (sample v r)

  abbrev p : List ℕ
  p = e.response.report

  one_then : (m : ℕ) → e.response.number ≡ m
      → (m ≡ 0 → Listed s e.words k rest (drop k r) b)
      → (m ≡ 0 → (k ≤ length p) × (drop k p ≡ drop k r))
      → ((m ≡ 0 → ⊥) → (e.words ≡ w) × (p ≡ r))
      → Listed s w k (sample v r ∷ rest) r (and_then k m e b)
  unfolding register_responses register_after responses_read
  one_then zero z h q u =
      let l = h refl in
      let x = q refl in
      let n = b.taken * k in
      let after = take k p ++ b.reports in
      let own : length (take k p) ≡ k = length-take-le k p x.0 in
      let front : take k after ≡ take k p = take_at (take k p) b.reports k own in
      let back : drop k after ≡ b.reports = drop_at (take k p) b.reports k own in
      let last : b.number + b.taken ≡ 0 → drop k after ≡ drop k r
      = λ y. (let none : b.taken ≡ 0 = omega arith in let past : n ≡ 0 = ap (◌* k) none ∙ zero-mul k in back ∙ subst (λ (j : ℕ). drop j b.reports ≡ drop j (drop k r)) past l.stays) in
      let report : p ≡ take k after ++ beyond (b.number + b.taken) (drop k r) (drop k after)
      = sym (take-append-drop k p) ∙ ap₂ ◌++◌ (sym front) (x.1 ∙ sym (beyond-is (b.number + b.taken) (drop k r) (drop k after) last)) in
      let others : register_responses s e.words (first_calls b.number b.taken rest) ≡ responses_read k b.number b.taken (drop k r) (drop k after)
      = l.responses ∙ ap (responses_read k b.number b.taken (drop k r)) (sym back) in
      let more : suc b.taken * k ≡ k + n = suc-mul b.taken k ∙ add_comm n k in
      record {
        responses =
            ap (register_responses s w) (first_more b.number b.taken (sample v r) rest)
            ∙ ap₂ ◌∷◌ (response-is s w v r 0 z ∙ ap (answered 0) report) others;
        words = ap (register_after s w) (first_more b.number b.taken (sample v r) rest) ∙ l.words;
        kept = l.kept;
        stays =
            ap (λ (j : ℕ). drop j after) (more ∙ ap (◌+ n) (sym own)) ∙ drop-append-add (take k p) b.reports n
            ∙ l.stays ∙ drop-drop n k r ∙ ap (λ (j : ℕ). drop j r) (sym more);
      }
  one_then (suc m) z h q u =
      let x = u (λ y. omega arith) in
      record {
        responses = ap (λ (x : Response). x ∷ []) (response-is s w v r (suc m) z);
        words = refl;
        kept = sym x.0;
        stays = ap (drop (0 * k)) x.1;
      }

-- ---- all

none : (s w : List ℕ) (k : ℕ) (r : List ℕ) → Listed s w k [] r (ended 0 w r)
unfolding register_responses register_after responses_read
none s w k r = record { responses = refl; words = refl; kept = refl; stays = refl }

listed_in : (s : List ℕ) (t : Table) → decode s ≡ decoded t → (n : ℕ) (w v r : List ℕ) → Listed s w (illegal_total t) (cut_calls t n v r) r (in_turn s t n w v r)
unfolding cut_calls in_turn
listed_in s t known zero w v r = none s w (illegal_total t) r
listed_in s t known (suc n) w [] r = none s w (illegal_total t) r
listed_in s t known (suc n) w (x ∷ v) r =
    let k = illegal_total t in
    let v₁ = take (sample_size t) (x ∷ v) in
    let v₂ = drop (sample_size t) (x ∷ v) in
    let e = call s w (sample v₁ r) in
    let p = drop k e.response.report in
    let b = in_turn s t n e.words v₂ p in
    one_then s w v₁ r k (cut_calls t n v₂ (drop k r)) b e.response.number refl
    (λ z. subst (λ (l : List ℕ). Listed s e.words k (cut_calls t n v₂ l) l b) (rest-kept s t known w v₁ r z) (listed_in s t known n e.words v₂ p))
    (λ z. (report-long s t known w v₁ r z, rest-kept s t known w v₁ r z)) (leaves s t known w v₁ r)

-- What a batch b stands for: the calls cs, cut from the words v, as far as they were made. Those that were taken leave the register and the reports as the batch does.
pub record Stands (s w : List ℕ) (k : ℕ) (cs : List Call) (v r : List ℕ) (b : Batch) : Type 0 where
  pub responses : register_responses s w (first_calls b.number b.taken cs) ≡ batch_responses k b.number b.taken v r b.reports
  pub words : register_after s w (first_calls b.number b.taken cs) ≡ b.words
  pub kept : register_after s w (take b.taken cs) ≡ b.words
  pub stays : drop (b.taken * k) b.reports ≡ drop (b.taken * k) r

empty : (s w : List ℕ) (k : ℕ) (r : List ℕ) (n : ℕ) → Stands s w k [] [] r (ended n w r)
unfolding register_responses register_after
empty s w k r zero = record { responses = refl; words = refl; kept = refl; stays = refl }
empty s w k r (suc n) = record { responses = refl; words = refl; kept = refl; stays = refl }

-- Every batch.
pub batch-is : (s w v r : List ℕ) → Stands s w (illegal_total (table_of s)) (calls_from (decode s) v r) v r (batch s w v r)
unfolding batch table_of call on_table
batch-is s w v r = go (decode s) refl v
  where
    stands : (k : ℕ) (cs : List Call) (x : ℕ) (v : List ℕ) (b : Batch) → Listed s w k cs r b → Stands s w k cs (x ∷ v) r b
    stands k cs x v b l = record { responses = l.responses; words = l.words; kept = l.kept; stays = l.stays }

    go : (o : Outcome) → decode s ≡ o → (v : List ℕ) → Stands s w (illegal_total (table_from o)) (calls_from o v r) v r (batch_from o s w v r)
    go (rejected f) known [] = empty s w _ r (number_of f.class)
    go (decoded t) known [] = unfold cut_calls in empty s w (illegal_total t) r (call s w ask_group).response.number
    go (rejected f) known (x ∷ v) =
        let k = illegal_total (table_from (rejected f)) in
        let c = sample (x ∷ v) r in
        let e : call s w c ≡ on_outcome (rejected f) w c = ap (λ (o : Outcome). on_outcome o w c) known in
        let m = number_of f.class in
        let y : m ≡ 0 → ⊥ = some_number f.class in
        let left : ((call s w c).words ≡ w) × ((call s w c).response.report ≡ r) = (ap (λ (x : Effect). x.words) e, ap (λ (x : Effect). x.response.report) e) in
        let one = one_then s w (x ∷ v) r k [] (ended 0 w r) m (ap (λ (x : Effect). x.response.number) e) (λ q. absurd (y q)) (λ q. absurd (y q)) (λ q. left) in
        let all : and_then k m (call s w c) (ended 0 w r) ≡ ended m w r = then-refused k m (call s w c) (ended 0 w r) y ∙ ap (λ (x : Effect). ended m x.words x.response.report) e in
        stands k (c ∷ []) x v (ended m w r) (subst (λ (b : Batch). Listed s w k (c ∷ []) r b) all one)
    go (decoded t) known (x ∷ v) = stands (illegal_total t) _ x v _ (listed_in s t known (length (x ∷ v)) w (x ∷ v) r)
