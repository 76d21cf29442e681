-- Run words that are written one sequence after the other, and one bin after the other.
-- Assumes nothing.
use mathlib.Core.Path.{◌≡◌, refl, sym, ap, ap₂, ◌∙◌}
use mathlib.Core.List.{List, [], ◌∷◌, ◌++◌}
use Prim.Native.Nat.{ℕ, ◌+◌, ◌≤◌}
use native.Mathlib.Omega.{arith}
use lib.ListN.{length, get_or, take, drop, length-append, length-drop}
use lib.Seq.{drop-drop, length-take-le}
use Rattle.model.specs.Lists.{sum_of}
use Rattle.model.specs.Table.{Step, TransitionBin}
use Rattle.model.specs.Sampling.{Reading, run_length, next_run}
use Rattle.model.proofs.Lists.{length_part}
use Rattle.arrays.specs.Put.{put}
use Rattle.arrays.specs.declared.reading.Reading as code
use Rattle.arrays.specs.declared.reading.Reading.TheVariants.{Skipped}
use Rattle.arrays.proofs.PutLaws.{put-nil, put_next, drop-put}
use Rattle.sequences.proofs.Sequences.{length-next_run}
use Rattle.arrays.specs.Flat.{reading_from}
use Rattle.runs.specs.Runs.{bin_runs, next_bin, bin_words, all_runs}

-- ---- a piece is written, and those that are left follow it

piece-turn : (g : List ℕ → List ℕ) (a n : ℕ) (xs w w' : List ℕ) → length xs ≡ n → a + n ≤ length w → w' ≡ put a xs w
    → put (a + n) (g (drop (a + n) w')) w' ≡ put a (xs ++ g (drop n (drop a w))) w
piece-turn g a n xs w w' l h e =
    let d : drop (a + n) w' ≡ drop n (drop a w) = ap (drop (a + n)) e ∙ drop-put a n xs w l h ∙ sym (drop-drop n a w) in
    ap₂ (λ (y z : List ℕ). put (a + n) (g y) z) d e ∙ put_next a n xs (g (drop n (drop a w))) w l h

pub sequence-turn : (x : Reading) (ss : List Step) (sss : List (List Step)) (a e : ℕ) (w w' : List ℕ) → e ≡ a + run_length ss → a + run_length ss ≤ length w
    → w' ≡ put a (next_run ss (take (run_length ss) (drop a w)) x) w → put e (bin_runs x sss (drop e w')) w' ≡ put a (bin_runs x (ss ∷ sss) (drop a w)) w
unfolding bin_runs
sequence-turn x ss sss a e w w' ee h ew =
    let n = run_length ss in
    let xs = next_run ss (take n (drop a w)) x in
    ap (λ (k : ℕ). put k (bin_runs x sss (drop k w')) w') ee
    ∙ piece-turn (bin_runs x sss) a n xs w w' (length-next_run ss (take n (drop a w)) x (length_part w a n h)) h ew

pub sequences-none : (x : Reading) (a : ℕ) (runs w : List ℕ) → put a (bin_runs x [] runs) w ≡ w
unfolding bin_runs
sequences-none x a runs w = put-nil a w

pub length-bin_runs : (x : Reading) (sss : List (List Step)) (runs : List ℕ) → sum_of run_length sss ≤ length runs → length (bin_runs x sss runs) ≡ sum_of run_length sss
unfolding bin_runs sum_of
length-bin_runs x [] runs h = refl
length-bin_runs x (ss ∷ sss) runs h =
    let n = run_length ss in
    let k : sum_of run_length sss ≤ length (drop n runs) = simp length-drop (omega arith) in
    length-append (next_run ss (take n runs) x) (bin_runs x sss (drop n runs))
    ∙ ap₂ ◌+◌ (length-next_run ss (take n runs) x (length-take-le n runs (omega arith))) (length-bin_runs x sss (drop n runs) k)

pub bin-turn : (codes : List code.Reading) (b : TransitionBin) (bs : List TransitionBin) (a e : ℕ) (w w' : List ℕ) → e ≡ a + bin_words b → a + bin_words b ≤ length w
    → w' ≡ put a (next_bin codes b (drop a w)) w → put e (all_runs codes bs (drop e w')) w' ≡ put a (all_runs codes (b ∷ bs) (drop a w)) w
unfolding all_runs
bin-turn codes b bs a e w w' ee h ew =
    let k : bin_words b ≤ length (drop a w) = simp length-drop (omega arith) in
    ap (λ (m : ℕ). put m (all_runs codes bs (drop m w')) w') ee
    ∙ piece-turn (all_runs codes bs) a (bin_words b) (next_bin codes b (drop a w)) w w' (length-bin_runs (reading_from (get_or codes b.point Skipped)) b.sequences (drop a w) k) h ew

pub bins_none : (codes : List code.Reading) (a : ℕ) (runs w : List ℕ) → put a (all_runs codes [] runs) w ≡ w
unfolding all_runs
bins_none codes a runs w = put-nil a w
