-- The run words of all sequences, one sequence after the other, and what matches.
-- Assumes nothing.
use mathlib.Core.Path.{◌≡◌, refl, ap, ap₂, sym, ◌∙◌}
use mathlib.Core.Bool.{true, false}
use mathlib.Core.List.{List, [], ◌∷◌, ◌++◌, map, append_assoc}
use Prim.Native.Nat.{ℕ, ◌+◌, ◌≤◌}
use native.Mathlib.Omega.{arith}
use lib.Bits.{bit_or}
use lib.ListN.{length, take, drop, length-append, length-drop}
use lib.Seq.{drop-drop, take-append-le, drop-append-le, length-take-le}
use Rattle.model.specs.Lists.{sum_of}
use Rattle.model.specs.Table.{Step, Table}
use Rattle.model.specs.Sampling.{Reading, skipped, unknown, known, is_skipped, reading, run_length, next_steps, next_run, matched_lengths}
use Rattle.model.specs.Register.{Sequence, next_runs, bin_lengths}
use Rattle.sequences.proofs.NextSteps.{length-next_steps}

-- ---- one sequence's next run

pub next_run-read : (ss : List Step) (run : List ℕ) (r : Reading) → is_skipped r ≡ false → next_run ss run r ≡ next_steps ss run 1 r
next_run-read ss run skipped e = let z : true ≡ false = e in cc
next_run-read ss run unknown e = refl
next_run-read ss run (known v) e = refl

pub next_run-skipped : (ss : List Step) (run : List ℕ) (r : Reading) → is_skipped r ≡ true → next_run ss run r ≡ run
next_run-skipped ss run skipped e = refl
next_run-skipped ss run unknown e = let z : false ≡ true = e in cc
next_run-skipped ss run (known v) e = let z : false ≡ true = e in cc

pub length-next_run : (ss : List Step) (run : List ℕ) (r : Reading) → length run ≡ run_length ss → length (next_run ss run r) ≡ run_length ss
length-next_run ss run skipped e = e
length-next_run ss run unknown e = length-next_steps ss run 1 unknown (omega arith)
length-next_run ss run (known v) e = length-next_steps ss run 1 (known v) (omega arith)

-- ---- all sequences

-- the run words of some sequences
abbrev pub total : List Sequence → ℕ
total qs = sum_of (λ q. run_length q.steps) qs

module _ (t : Table) (s : List ℕ) where
  pub length_next_runs : (qs : List Sequence) (runs : List ℕ) → total qs ≤ length runs → length (next_runs t s qs runs) ≡ total qs
  unfolding next_runs sum_of
  length_next_runs [] runs h = refl
  length_next_runs (q ∷ qs) runs h =
      let n = run_length q.steps in
      let xs = next_run q.steps (take n runs) (reading t s q.point) in
      let k : total qs ≤ length (drop n runs) = simp length-drop (omega arith) in
      length-append xs (next_runs t s qs (drop n runs))
      ∙ ap₂ ◌+◌ (length-next_run q.steps (take n runs) (reading t s q.point) (length-take-le n runs (omega arith))) (length_next_runs qs (drop n runs) k)

  -- the sequences of one bin, and then those of the others
  pub next_runs_append : (qs qs' : List Sequence) (runs : List ℕ) → next_runs t s (qs ++ qs') runs ≡ next_runs t s qs runs ++ next_runs t s qs' (drop (total qs) runs)
  unfolding next_runs sum_of
  next_runs_append [] qs' runs = refl
  next_runs_append (q ∷ qs) qs' runs =
      let n = run_length q.steps in
      let xs = next_run q.steps (take n runs) (reading t s q.point) in
      ap (xs ++◌) (next_runs_append qs qs' (drop n runs) ∙ ap (λ (l : List ℕ). next_runs t s qs (drop n runs) ++ next_runs t s qs' l) (drop-drop (total qs) n runs))
      ∙ sym (append_assoc xs (next_runs t s qs (drop n runs)) (next_runs t s qs' (drop (n + total qs) runs)))

pub total-bin : (p : ℕ) (sss : List (List Step)) → total (map (λ ss. record { point = p; steps = ss }) sss) ≡ sum_of run_length sss
unfolding sum_of
total-bin p [] = refl
total-bin p (ss ∷ sss) = ap (run_length ss +◌) (total-bin p sss)

-- ---- what matches

-- words after the bin's own count for nothing
pub bin_lengths-front : (sss : List (List Step)) (xs ys : List ℕ) → sum_of run_length sss ≤ length xs → bin_lengths sss (xs ++ ys) ≡ bin_lengths sss xs
unfolding bin_lengths sum_of
bin_lengths-front [] xs ys h = refl
bin_lengths-front (ss ∷ sss) xs ys h =
    let n = run_length ss in
    let h₁ : n ≤ length xs = omega arith in
    let k : sum_of run_length sss ≤ length (drop n xs) = simp length-drop (omega arith) in
    ap₂ bit_or
    (ap (matched_lengths ss) (take-append-le n xs ys h₁))
    (ap (bin_lengths sss) (drop-append-le n xs ys h₁) ∙ bin_lengths-front sss (drop n xs) ys k)
