-- The walk over the rows: what is left of the sequences of a bin, and of the bins, from the present places on gives the whole.
-- Assumes nothing.
use mathlib.Core.Path.{◌≡◌, refl, sym, ap, ap₂, ◌∙◌, subst}
use mathlib.Core.Bool.{true, ◌&&◌}
use mathlib.Core.List.{List, [], ◌∷◌, ◌++◌}
use Prim.Native.Nat.{ℕ, ◌+◌, ◌*◌, ◌≤◌, ◌<◌}
use native.Mathlib.Omega.{arith}
use lib.Bits.{bit_or, or_zero_l, or_zero_r}
use lib.Dec.{leb}
use lib.ListN.{length, get_or, set, take, drop, length-append, length-drop, length-set, drop_of_length-le}
use lib.Seq.{drop-drop, take_at, drop_at, length-take-le}
use borrow.Author.Tests.{leb-true}
use Rattle.model.specs.Lists.{all, sum_of, concat_of}
use Rattle.model.specs.Table.{Step, TransitionBin, no_transition_bin}
use Rattle.model.specs.Sampling.{Reading, run_length, next_run, matched_lengths}
use Rattle.model.specs.Register.{bin_lengths, all_lengths}
use Rattle.model.proofs.Booleans.{and_left, and_right}
use Rattle.model.proofs.Lists.{head_tail, length_part}
use Rattle.model.proofs.RunBits.{or_assoc}
use Rattle.model.proofs.AccessTransitions.{ranges_in}
use Rattle.arrays.specs.Put.{put}
use Rattle.arrays.specs.declared.reading.Reading as code
use Rattle.arrays.specs.declared.reading.Reading.TheVariants.{Skipped}
use Rattle.arrays.proofs.PutLaws.{put-nil, put-cons, drop-put, length-put}
use Rattle.sequences.proofs.Sequences.{length-next_run, bin_lengths-front}
use Rattle.arrays.specs.Flat.{reading_from}
use Rattle.runs.specs.Runs.{bin_runs, next_bin, bin_words, all_runs, sequence_fits}
use Rattle.runs.specs.Rows.{sequence_row, bin_row, Stands}
use Rattle.runs.proofs.RowLaws.{length-row}
use Rattle.runs.proofs.Standing.{stands_first, stands_next, RowAt, row_at}
use Rattle.runs.proofs.Written.{sequence-turn, sequences-none, length-bin_runs, bin-turn, bins_none}

-- what was written is past
past-drop : (a n e : ℕ) (xs w w' : List ℕ) → length xs ≡ n → a + n ≤ length w → e ≡ a + n → w' ≡ put a xs w → drop e w' ≡ drop n (drop a w)
past-drop a n e xs w w' l h ee ew = ap₂ drop ee ew ∙ drop-put a n xs w l h ∙ sym (drop-drop n a w)

-- ---- the sequences of a bin

-- i of the sequences are done. The row of the next stands at `row`, its run words at `words` of the register l, and `out` has the lengths so far.
pub record Taking (sss : List (List Step)) (x : Reading) (plan : List ℕ) (row₀ words₀ : ℕ) (l₀ : List ℕ) (i row words out : ℕ) (l : List ℕ) : Type 0 where
  pub few : i ≤ length sss
  pub kept : length l ≡ length l₀
  pub stands : Stands plan row (concat_of sequence_row (drop i sss))
  pub row_left : row + length (concat_of sequence_row (drop i sss)) ≡ row₀ + length (concat_of sequence_row sss)
  pub words_left : words + sum_of run_length (drop i sss) ≡ words₀ + sum_of run_length sss
  pub fit : all sequence_fits (drop i sss) ≡ true
  pub runs : put words (bin_runs x (drop i sss) (drop words l)) l ≡ put words₀ (bin_runs x sss (drop words₀ l₀)) l₀
  pub lengths : bit_or out (bin_lengths (drop i sss) (bin_runs x (drop i sss) (drop words l))) ≡ bin_lengths sss (bin_runs x sss (drop words₀ l₀))

lengths_turn : (ss : List Step) (sss : List (List Step)) (x : Reading) (out : ℕ) (runs runs' : List ℕ) → run_length ss ≤ length runs → runs' ≡ drop (run_length ss) runs
    → bit_or (bit_or out (matched_lengths ss (next_run ss (take (run_length ss) runs) x))) (bin_lengths sss (bin_runs x sss runs')) ≡ bit_or out (bin_lengths (ss ∷ sss) (bin_runs x (ss ∷ sss) runs))
unfolding bin_runs bin_lengths
lengths_turn ss sss x out runs runs' h e =
    let n = run_length ss in
    let xs = next_run ss (take n runs) x in
    let ys = bin_runs x sss (drop n runs) in
    let k : length xs ≡ n = length-next_run ss (take n runs) x (length-take-le n runs h) in
    or_assoc out (matched_lengths ss xs) (bin_lengths sss (bin_runs x sss runs'))
    ∙ ap (bit_or out) (ap₂ bit_or (ap (matched_lengths ss) (sym (take_at xs ys n k))) (ap (λ (z : List ℕ). bin_lengths sss (bin_runs x sss z)) e ∙ ap (bin_lengths sss) (sym (drop_at xs ys n k))))

module _ (sss : List (List Step)) (x : Reading) (plan : List ℕ) (row₀ words₀ : ℕ) (l₀ : List ℕ) where
  pub taking_start : Stands plan row₀ (concat_of sequence_row sss) → all sequence_fits sss ≡ true → Taking sss x plan row₀ words₀ l₀ 0 row₀ words₀ 0 l₀
  taking_start h e = record {
    few = omega arith;
    kept = refl;
    stands = h;
    row_left = refl;
    words_left = refl;
    fit = e;
    runs = refl;
    lengths = or_zero_l (bin_lengths sss (bin_runs x sss (drop words₀ l₀)));
  }

  module _ (i row words out : ℕ) (l : List ℕ) (going : Taking sss x plan row₀ words₀ l₀ i row words out l) where
    module _ (h : i < length sss) (room : words₀ + sum_of run_length sss ≤ length l₀) where
      ss : List Step
      ss = get_or sss i []

      rest : List (List Step)
      rest = drop (i + 1) sss

      here : drop i sss ≡ ss ∷ rest
      unfolding ss rest
      here = head_tail sss i [] h

      own : Stands plan row (sequence_row ss ++ concat_of sequence_row rest)
      unfolding concat_of
      own = subst (λ (y : List (List Step)). Stands plan row (concat_of sequence_row y)) here going.stands

      row-long : length (concat_of sequence_row (drop i sss)) ≡ 3 + 2 * length ss + 4 * ranges_in ss + length (concat_of sequence_row rest)
      unfolding concat_of
      row-long = ap (λ (y : List (List Step)). length (concat_of sequence_row y)) here ∙ length-append (sequence_row ss) (concat_of sequence_row rest) ∙ ap (◌+ length (concat_of sequence_row rest)) (length-row ss)

      words_long : sum_of run_length (drop i sss) ≡ run_length ss + sum_of run_length rest
      words_long = ap (sum_of run_length) here ∙ (unfold sum_of in refl)

      fits : (sequence_fits ss && all sequence_fits rest) ≡ true
      unfolding all
      fits = ap (all sequence_fits) (sym here) ∙ going.fit

      space : words + run_length ss ≤ length l
      space = omega (arith, words_long, going.words_left, going.kept)

      pub taking-here : RowAt plan row (get_or sss i []) × (length (get_or sss i []) ≤ 16) × (run_length (get_or sss i []) ≤ 32) × (words + run_length (get_or sss i []) ≤ length l) × Stands plan row (sequence_row (get_or sss i []))
      unfolding sequence_fits ss
      taking-here =
          let e = and_left (sequence_fits ss) (all sequence_fits rest) fits in
          let first = stands_first plan row (sequence_row ss) (concat_of sequence_row rest) own in (
            row_at plan row ss first,
            leb-true (length ss) 16 (and_left (leb (length ss) 16) (leb (run_length ss) 32) e),
            leb-true (run_length ss) 32 (and_right (leb (length ss) 16) (leb (run_length ss) 32) e),
            space,
            first,
          )

      pub taking-turn : (row' words' y : ℕ) (l' : List ℕ) → row' ≡ row + 3 + 2 * length (get_or sss i []) + 4 * ranges_in (get_or sss i []) → words' ≡ words + run_length (get_or sss i [])
          → l' ≡ put words (next_run (get_or sss i []) (take (run_length (get_or sss i [])) (drop words l)) x) l → y ≡ matched_lengths (get_or sss i []) (next_run (get_or sss i []) (take (run_length (get_or sss i [])) (drop words l)) x)
          → Taking sss x plan row₀ words₀ l₀ (i + 1) row' words' (bit_or out y) l'
      unfolding ss rest
      taking-turn row' words' y l' er ew el ey =
          let n = run_length ss in
          let xs = next_run ss (take n (drop words l)) x in
          let long : length xs ≡ n = length-next_run ss (take n (drop words l)) x (length_part l words n space) in
          let left : n ≤ length (drop words l) = simp length-drop (omega (arith, space)) in
          let gone : drop words' l' ≡ drop n (drop words l) = past-drop words n words' xs l l' long space ew el in
          let next : row' ≡ row + length (sequence_row ss) = omega (arith, length-row ss) in
          record {
            few = omega arith;
            kept = ap length el ∙ length-put words xs l (omega (arith, space)) ∙ going.kept;
            stands = subst (λ (m : ℕ). Stands plan m (concat_of sequence_row rest)) (sym next) (stands_next plan row (sequence_row ss) (concat_of sequence_row rest) (length (sequence_row ss)) refl own);
            row_left = omega (arith, row-long, going.row_left);
            words_left = omega (arith, words_long, going.words_left);
            fit = and_right (sequence_fits ss) (all sequence_fits rest) fits;
            runs = sequence-turn x ss rest words words' l l' ew space el ∙ ap (λ (z : List (List Step)). put words (bin_runs x z (drop words l)) l) (sym here) ∙ going.runs;
            lengths = ap (λ (z : ℕ). bit_or (bit_or out z) (bin_lengths rest (bin_runs x rest (drop words' l')))) ey
                ∙ lengths_turn ss rest x out (drop words l) (drop words' l') left gone
                ∙ ap (λ (z : List (List Step)). bit_or out (bin_lengths z (bin_runs x z (drop words l)))) (sym here) ∙ going.lengths;
          }

    pub taking-end : length sss ≤ i → (row ≡ row₀ + length (concat_of sequence_row sss)) × (words ≡ words₀ + sum_of run_length sss)
        × (l ≡ put words₀ (bin_runs x sss (drop words₀ l₀)) l₀) × (out ≡ bin_lengths sss (bin_runs x sss (drop words₀ l₀)))
    taking-end h =
        let e : drop i sss ≡ [] = drop_of_length-le sss h in
        let z : length (concat_of sequence_row (drop i sss)) ≡ 0 = ap (λ (y : List (List Step)). length (concat_of sequence_row y)) e ∙ (unfold concat_of in refl) in
        let y : sum_of run_length (drop i sss) ≡ 0 = ap (sum_of run_length) e ∙ (unfold sum_of in refl) in (
          omega (arith, going.row_left),
          omega (arith, going.words_left),
          sym (ap (λ (k : List (List Step)). put words (bin_runs x k (drop words l)) l) e ∙ sequences-none x words (drop words l) l) ∙ going.runs,
          sym (ap (λ (k : List (List Step)). bit_or out (bin_lengths k (bin_runs x k (drop words l)))) e ∙ (unfold bin_lengths in (or_zero_r out))) ∙ going.lengths,
        )

-- the whole bin, whose point p and reading were read from its row
pub bin-taken : (b : TransitionBin) (codes : List code.Reading) (p row row₁ words₀ words₁ out : ℕ) (l₀ l : List ℕ) → p ≡ b.point → row + 2 + length (concat_of sequence_row b.sequences) ≡ row + length (bin_row b)
    → (row₁ ≡ row + 2 + length (concat_of sequence_row b.sequences)) × (words₁ ≡ words₀ + sum_of run_length b.sequences)
    × (l ≡ put words₀ (bin_runs (reading_from (get_or codes p Skipped)) b.sequences (drop words₀ l₀)) l₀) × (out ≡ bin_lengths b.sequences (bin_runs (reading_from (get_or codes p Skipped)) b.sequences (drop words₀ l₀)))
    → ((row₁ ≡ row + length (bin_row b)) × (words₁ ≡ words₀ + sum_of run_length b.sequences))
    × ((l ≡ put words₀ (next_bin codes b (drop words₀ l₀)) l₀) × (out ≡ bin_lengths b.sequences (next_bin codes b (drop words₀ l₀))))
bin-taken b codes p row row₁ words₀ words₁ out l₀ l ep er (e₀, e₁, e₂, e₃) =
    let same : bin_runs (reading_from (get_or codes p Skipped)) b.sequences (drop words₀ l₀) ≡ next_bin codes b (drop words₀ l₀) = ap (λ (q : ℕ). bin_runs (reading_from (get_or codes q Skipped)) b.sequences (drop words₀ l₀)) ep in
    ((e₀ ∙ er, e₁), (e₂ ∙ ap (λ (xs : List ℕ). put words₀ xs l₀) same, e₃ ∙ ap (bin_lengths b.sequences) same))

-- ---- the bins

pub length-all_runs : (codes : List code.Reading) (bs : List TransitionBin) (runs : List ℕ) → sum_of bin_words bs ≤ length runs → length (all_runs codes bs runs) ≡ sum_of bin_words bs
unfolding all_runs sum_of
length-all_runs codes [] runs h = refl
length-all_runs codes (b ∷ bs) runs h =
    let n = bin_words b in
    let k : sum_of bin_words bs ≤ length (drop n runs) = simp length-drop (omega arith) in
    length-append (next_bin codes b runs) (all_runs codes bs (drop n runs))
    ∙ ap₂ ◌+◌ (length-bin_runs (reading_from (get_or codes b.point Skipped)) b.sequences runs (omega arith)) (length-all_runs codes bs (drop n runs) k)

-- i of the bins are done. The row of the next stands at `row`, its run words at `words` of the register l, and lens has the lengths so far.
pub record Binning (bs : List TransitionBin) (codes : List code.Reading) (plan : List ℕ) (words₀ : ℕ) (l₀ lens₀ : List ℕ) (i row words : ℕ) (l lens : List ℕ) : Type 0 where
  pub few : i ≤ length bs
  pub kept : length l ≡ length l₀
  pub kept_lens : length lens ≡ length lens₀
  pub stands : Stands plan row (concat_of bin_row (drop i bs))
  pub words_left : words + sum_of bin_words (drop i bs) ≡ words₀ + sum_of bin_words bs
  pub runs : put words (all_runs codes (drop i bs) (drop words l)) l ≡ put words₀ (all_runs codes bs (drop words₀ l₀)) l₀
  pub lengths : put i (all_lengths (drop i bs) (all_runs codes (drop i bs) (drop words l))) lens ≡ put 0 (all_lengths bs (all_runs codes bs (drop words₀ l₀))) lens₀

word-turn : (b : TransitionBin) (bs : List TransitionBin) (codes : List code.Reading) (k y : ℕ) (runs runs' lens : List ℕ) → bin_words b ≤ length runs → runs' ≡ drop (bin_words b) runs
    → y ≡ bin_lengths b.sequences (next_bin codes b runs) → k < length lens
    → put (k + 1) (all_lengths bs (all_runs codes bs runs')) (set lens k y) ≡ put k (all_lengths (b ∷ bs) (all_runs codes (b ∷ bs) runs)) lens
unfolding all_runs all_lengths
word-turn b bs codes k y runs runs' lens h e ey hk =
    let n = bin_words b in
    let xs = next_bin codes b runs in
    let ys = all_runs codes bs (drop n runs) in
    let long : length xs ≡ n = length-bin_runs (reading_from (get_or codes b.point Skipped)) b.sequences runs h in
    put-cons k y (all_lengths bs (all_runs codes bs runs')) lens hk
    ∙ ap₂ (λ (m : ℕ) (z : List ℕ). put k (m ∷ all_lengths bs z) lens) (ey ∙ sym (bin_lengths-front b.sequences xs ys (omega arith))) (ap (all_runs codes bs) e ∙ sym (drop_at xs ys n long))

module _ (bs : List TransitionBin) (codes : List code.Reading) (plan : List ℕ) (words₀ : ℕ) (l₀ lens₀ : List ℕ) where
  pub binning_start : (row₀ : ℕ) → Stands plan row₀ (concat_of bin_row bs) → Binning bs codes plan words₀ l₀ lens₀ 0 row₀ words₀ l₀ lens₀
  binning_start row₀ h = record {
    few = omega arith;
    kept = refl;
    kept_lens = refl;
    stands = h;
    words_left = refl;
    runs = refl;
    lengths = refl;
  }

  module _ (i row words : ℕ) (l lens : List ℕ) (going : Binning bs codes plan words₀ l₀ lens₀ i row words l lens) where
    module _ (h : i < length bs) (room : words₀ + sum_of bin_words bs ≤ length l₀) where
      bin : TransitionBin
      bin = get_or bs i no_transition_bin

      others : List TransitionBin
      others = drop (i + 1) bs

      bin-here : drop i bs ≡ bin ∷ others
      unfolding bin others
      bin-here = head_tail bs i no_transition_bin h

      bin-own : Stands plan row (bin_row bin ++ concat_of bin_row others)
      unfolding concat_of
      bin-own = subst (λ (y : List TransitionBin). Stands plan row (concat_of bin_row y)) bin-here going.stands

      bin-words : sum_of bin_words (drop i bs) ≡ bin_words bin + sum_of bin_words others
      bin-words = ap (sum_of bin_words) bin-here ∙ (unfold sum_of in refl)

      bin-space : words + bin_words bin ≤ length l
      bin-space = omega (arith, bin-words, going.words_left, going.kept)

      pub binning-here : Stands plan row (bin_row (get_or bs i no_transition_bin)) × (words + sum_of run_length (get_or bs i no_transition_bin).sequences ≤ length l)
      unfolding bin
      binning-here = (stands_first plan row (bin_row bin) (concat_of bin_row others) bin-own, bin-space)

      pub binning-turn : (row' words' y : ℕ) (l' : List ℕ) → row' ≡ row + length (bin_row (get_or bs i no_transition_bin)) → words' ≡ words + sum_of run_length (get_or bs i no_transition_bin).sequences
          → l' ≡ put words (next_bin codes (get_or bs i no_transition_bin) (drop words l)) l → y ≡ bin_lengths (get_or bs i no_transition_bin).sequences (next_bin codes (get_or bs i no_transition_bin) (drop words l)) → i < length lens
          → Binning bs codes plan words₀ l₀ lens₀ (i + 1) row' words' l' (set lens i y)
      unfolding bin others
      binning-turn row' words' y l' er ew el ey hi =
          let n = bin_words bin in
          let xs = next_bin codes bin (drop words l) in
          let left : n ≤ length (drop words l) = simp length-drop (omega (arith, bin-space)) in
          let long : length xs ≡ n = length-bin_runs (reading_from (get_or codes bin.point Skipped)) bin.sequences (drop words l) left in
          let gone : drop words' l' ≡ drop n (drop words l) = past-drop words n words' xs l l' long bin-space ew el in
          record {
            few = omega arith;
            kept = ap length el ∙ length-put words xs l (omega (arith, bin-space)) ∙ going.kept;
            kept_lens = simp length-set going.kept_lens;
            stands = subst (λ (m : ℕ). Stands plan m (concat_of bin_row others)) (sym er) (stands_next plan row (bin_row bin) (concat_of bin_row others) (length (bin_row bin)) refl bin-own);
            words_left = omega (arith, bin-words, going.words_left);
            runs = bin-turn codes bin others words words' l l' ew bin-space el
                ∙ ap (λ (z : List TransitionBin). put words (all_runs codes z (drop words l)) l) (sym bin-here) ∙ going.runs;
            lengths = word-turn bin others codes i y (drop words l) (drop words' l') lens left gone ey hi
                ∙ ap (λ (z : List TransitionBin). put i (all_lengths z (all_runs codes z (drop words l))) lens) (sym bin-here) ∙ going.lengths;
          }

    pub binning-end : length bs ≤ i → (l ≡ put words₀ (all_runs codes bs (drop words₀ l₀)) l₀) × (lens ≡ put 0 (all_lengths bs (all_runs codes bs (drop words₀ l₀))) lens₀)
    binning-end h =
        let e : drop i bs ≡ [] = drop_of_length-le bs h in (
          sym (ap (λ (k : List TransitionBin). put words (all_runs codes k (drop words l)) l) e ∙ bins_none codes words (drop words l) l) ∙ going.runs,
          sym (ap (λ (k : List TransitionBin). put i (all_lengths k (all_runs codes k (drop words l))) lens) e ∙ (unfold all_lengths in (put-nil i lens))) ∙ going.lengths,
        )
