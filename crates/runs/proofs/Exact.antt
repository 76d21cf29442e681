-- The runs by the readings are the model's next runs.
-- Assumes nothing.
use mathlib.Core.Path.{◌≡◌, refl, sym, ap, ap₂, ◌∙◌}
use mathlib.Core.List.{List, [], ◌∷◌, ◌++◌, map}
use Prim.Native.Nat.{ℕ, suc, ◌+◌, ◌≤◌, ◌<◌}
use native.Mathlib.Omega.{arith}
use lib.ListN.{length, get_or, take, drop, length-drop, take-append-drop}
use lib.Seq.{get_or-take, take-append-le, drop-append-le, length-take-le}
use Rattle.model.specs.Lists.{sum_of, concat_of}
use Rattle.model.specs.Table.{Step, TransitionBin, Table, no_transition_bin}
use Rattle.model.specs.Sampling.{Reading, reading, run_length, next_run}
use Rattle.model.specs.Register.{Sequence, bin_sequences, next_runs, point_total}
use Rattle.model.proofs.Lists.{get_d-row}
use Rattle.arrays.specs.Flat.{reading_code, reading_codes, Readings}
use Rattle.arrays.specs.declared.reading.Reading as code
use Rattle.arrays.specs.declared.reading.Reading.TheVariants.{Skipped}
use Rattle.arrays.proofs.FlatLaws.{from_code}
use Rattle.sequences.proofs.Sequences.{total, next_runs_append, total-bin}
use Rattle.arrays.specs.Flat.{reading_from}
use Rattle.runs.specs.Runs.{bin_runs, bin_words, all_runs}

-- ---- readings

module _ (t : Table) (w : List ℕ) (codes : List code.Reading) (r : Readings t w codes) where
  -- what stands at a point's number is its reading
  pub code_read : (p : ℕ) → p < point_total t → reading_from (get_or codes p Skipped) ≡ reading t w p
  unfolding reading_codes
  code_read p h =
      let f : ℕ → code.Reading = λ q. reading_code (reading t w q) in
      let z : 0 + p ≡ p = omega arith in
      ap reading_from (sym (get_or-take (point_total t) codes p Skipped h) ∙ ap (λ (l : List code.Reading). get_or l p Skipped) r.codes ∙ get_d-row f 0 (point_total t) p Skipped h ∙ ap f z)
      ∙ from_code (reading t w p)

-- ---- runs

module _ (t : Table) (w : List ℕ) where
  bin_exact : (p : ℕ) (sss : List (List Step)) (runs : List ℕ) → bin_runs (reading t w p) sss runs ≡ next_runs t w (map (λ ss. record { point = p; steps = ss }) sss) runs
  unfolding bin_runs next_runs
  bin_exact p [] runs = refl
  bin_exact p (ss ∷ sss) runs = ap (next_run ss (take (run_length ss) runs) (reading t w p) ++◌) (bin_exact p sss (drop (run_length ss) runs))

  pub runs_exact : (codes : List code.Reading) (bs : List TransitionBin) (runs : List ℕ)
      → ((i : ℕ) → i < length bs → reading_from (get_or codes (get_or bs i no_transition_bin).point Skipped) ≡ reading t w (get_or bs i no_transition_bin).point)
      → all_runs codes bs runs ≡ next_runs t w (concat_of bin_sequences bs) runs
  unfolding all_runs concat_of
  runs_exact codes [] runs h = unfold next_runs in refl
  runs_exact codes (b ∷ bs) runs h =
      let first : reading_from (get_or codes b.point Skipped) ≡ reading t w b.point = h 0 (omega arith) in
      ap₂ ◌++◌
      (ap (λ (x : Reading). bin_runs x b.sequences runs) first ∙ bin_exact b.point b.sequences runs)
      (runs_exact codes bs (drop (bin_words b) runs) (λ i k. h (suc i) (omega arith))
      ∙ ap (λ (n : ℕ). next_runs t w (concat_of bin_sequences bs) (drop n runs)) (sym (total-bin b.point b.sequences)))
      ∙ sym (next_runs_append t w (bin_sequences b) (concat_of bin_sequences bs) runs)

  -- words after the sequences' own count for nothing
  runs_front : (qs : List Sequence) (xs ys : List ℕ) → total qs ≤ length xs → next_runs t w qs (xs ++ ys) ≡ next_runs t w qs xs
  unfolding next_runs sum_of
  runs_front [] xs ys h = refl
  runs_front (q ∷ qs) xs ys h =
      let n = run_length q.steps in
      let h₁ : n ≤ length xs = omega arith in
      let k : total qs ≤ length (drop n xs) = simp length-drop (omega arith) in
      ap₂ ◌++◌
      (ap (λ (l : List ℕ). next_run q.steps l (reading t w q.point)) (take-append-le n xs ys h₁))
      (ap (next_runs t w qs) (drop-append-le n xs ys h₁) ∙ runs_front qs (drop n xs) ys k)

  pub runs_own : (qs : List Sequence) (runs : List ℕ) → total qs ≤ length runs → next_runs t w qs runs ≡ next_runs t w qs (take (total qs) runs)
  runs_own qs runs h =
      let l : length (take (total qs) runs) ≡ total qs = length-take-le (total qs) runs h in
      ap (next_runs t w qs) (sym (take-append-drop (total qs) runs)) ∙ runs_front qs (take (total qs) runs) (drop (total qs) runs) (omega arith)
