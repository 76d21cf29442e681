-- Demand 3: calls in a row after a reset, each as its contract says, answer and leave what the reference does.
-- Assumes nothing.
use mathlib.Core.Path.{◌≡◌, refl, sym, ap, ap₂, ◌∙◌}
use mathlib.Core.List.{List, [], ◌∷◌, ◌++◌}
use Prim.Native.Nat.{ℕ, ◌≤◌}
use lib.ListN.{length, take, drop}
use Rattle.model.specs.Table.{Table}
use Rattle.model.specs.Format.{decoded, decode}
use Rattle.model.specs.Register.{words_needed, Call, reset, Response, Effect, call}
use Rattle.model.specs.Reference.{register_responses, register_after, reference_words, reference_responses, reference_after_calls, new_reference}
use Rattle.model.proofs.Demand3 as Model
use Rattle.fluviquen.proofs.Steps.{Step, step_is, Batch, batch_step-is}

-- calls in a row, each on the words that the one before left: their responses, and the words at the end
pub data Steps (s : List ℕ) : List ℕ → List Call → List Response → List ℕ → Type 0 where
  done : {w : List ℕ} → Steps s w [] [] w
  next : {w : List ℕ} {c : Call} {x : Response} {after : List ℕ} {cs : List Call} {rs : List Response} {end : List ℕ}
      → Step s w c x after → Steps s after cs rs end → Steps s w (c ∷ cs) (x ∷ rs) end
  -- a batch is the list of its samples
  batch : {w : List ℕ} {bs : List Call} {xs : List Response} {after : List ℕ} {cs : List Call} {rs : List Response} {end : List ℕ}
      → Batch s w bs xs after → Steps s after cs rs end → Steps s w (bs ++ cs) (xs ++ rs) end

-- calls in a row, and then others
responses-append : (s w : List ℕ) (bs cs : List Call) → register_responses s w (bs ++ cs) ≡ register_responses s w bs ++ register_responses s (register_after s w bs) cs
unfolding register_responses register_after
responses-append s w [] cs = refl
responses-append s w (b ∷ bs) cs = let e = call s w b in ap (e.response ∷◌) (responses-append s e.words bs cs)

after-append : (s w : List ℕ) (bs cs : List Call) → register_after s w (bs ++ cs) ≡ register_after s (register_after s w bs) cs
unfolding register_after
after-append s w [] cs = refl
after-append s w (b ∷ bs) cs = after-append s (call s w b).words bs cs

steps_are : (s w : List ℕ) (cs : List Call) (rs : List Response) (end : List ℕ) → Steps s w cs rs end → (register_responses s w cs ≡ rs) × (register_after s w cs ≡ end)
unfolding register_responses register_after
steps_are s w cs rs end done = (refl, refl)
steps_are s w cs rs end (next {c = c} {x = x} {after = after} {cs = cs'} {rs = rs'} h k) =
    let i = steps_are s after cs' rs' end k in
    let e = step_is s w c x after h in
    (rw e (ap (x ∷◌) i.0), rw e i.1)
steps_are s w cs rs end (batch {bs = bs} {xs = xs} {after = after} {cs = cs'} {rs = rs'} h k) =
    let i = steps_are s after cs' rs' end k in
    let b = batch_step-is s w bs xs after h in (
      responses-append s w bs cs' ∙ ap₂ ◌++◌ b.0 (ap (λ (l : List ℕ). register_responses s l cs') b.1 ∙ i.0),
      after-append s w bs cs' ∙ ap (λ (l : List ℕ). register_after s l cs') b.1 ∙ i.1,
    )

-- After a reset of a register that is long enough, calls in a row answer as the reference does, the register's words are the reference's, and the words beyond stay.
pub demand3 : (s : List ℕ) (t : Table) → decode s ≡ decoded t → (w : List ℕ) → words_needed t ≤ length w
    → (x : Response) (new : List ℕ) → Step s w reset x new
    → (cs : List Call) (rs : List Response) (end : List ℕ) → Steps s new cs rs end
    → (rs ≡ reference_responses t new_reference cs) × (take (words_needed t) end ≡ reference_words t (reference_after_calls t new_reference cs)) × (drop (words_needed t) end ≡ drop (words_needed t) w)
demand3 s t e w h x new z cs rs end k =
    let a = Model.demand3 s t e w h cs in
    let begun = ap (λ (f : Effect). f.words) (step_is s w reset x new z) in
    let i = steps_are s new cs rs end k in
    let same = ap (λ (l : List ℕ). register_after s l cs) begun ∙ i.1 in (
      sym (ap (λ (l : List ℕ). register_responses s l cs) begun ∙ i.0) ∙ a.responses,
      ap (take (words_needed t)) (sym same) ∙ a.words,
      ap (drop (words_needed t)) (sym same) ∙ a.beyond,
    )
