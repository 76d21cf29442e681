-- Words that stand somewhere in a list: their parts, and the rows of a sequence among them.
-- Assumes nothing.
use mathlib.Core.Path.{◌≡◌, refl, sym, ap, ◌∙◌, subst}
use mathlib.Core.List.{List, [], ◌∷◌, ◌++◌}
use Prim.Native.Nat.{ℕ, ◌+◌, ◌-◌, ◌*◌, ◌≤◌, ◌<◌}
use native.Mathlib.Omega.{arith}
use lib.ListN.{length, get_or, take, drop, length-append, length-drop}
use lib.Seq.{take-take, take-add, drop-drop, take_at, drop_at, get_or-take, get_or-drop, length-take-le}
use borrow.Rule.Slice.PartMut.{put_mid}
use Rattle.model.specs.Lists.{concat_of}
use Rattle.model.specs.Table.{Step, TransitionBin}
use Rattle.model.specs.Sampling.{Reading, run_length, next_run, matched_lengths}
use Rattle.model.proofs.AccessTransitions.{ranges_in}
use Rattle.model.proofs.Lists.{length_part}
use Rattle.arrays.specs.Put.{put}
use Rattle.arrays.proofs.PutLaws.{part-back}
use Rattle.sequences.specs.Shapes.{shape_of, words_of, Fits}
use Rattle.sequences.proofs.Shapes.{words-shape, length-shape, fits-shape}
use Rattle.sequences.proofs.Sequences.{length-next_run}
use Rattle.runs.specs.Rows.{step_ranges, sequence_row, bin_row, Stands, RowFits}
use Rattle.runs.proofs.RowLaws.{length-step_ranges, length-row}

-- what is left of the first words without some of them
drop-taken : (m n : ℕ) (l : List ℕ) → m ≤ length l → drop m (take (m + n) l) ≡ take n (drop m l)
drop-taken m n l h = ap (drop m) (take-add m n l) ∙ drop_at (take m l) (take n (drop m l)) m (length-take-le m l h)

module _ (w : List ℕ) (at : ℕ) where
  pub stands_first : (xs ys : List ℕ) → Stands w at (xs ++ ys) → Stands w at xs
  stands_first xs ys (e, h) =
      let long = length-append xs ys in
      (sym (take-take (length xs) (length (xs ++ ys)) (drop at w) (omega arith)) ∙ ap (take (length xs)) e ∙ take_at xs ys (length xs) refl, omega arith)

  pub stands_next : (xs ys : List ℕ) (n : ℕ) → length xs ≡ n → Stands w at (xs ++ ys) → Stands w (at + n) ys
  stands_next xs ys n k (e, h) =
      let long : length (xs ++ ys) ≡ n + length ys = length-append xs ys ∙ ap (◌+ length ys) k in
      (ap (take (length ys)) (sym (drop-drop n at w)) ∙ sym (drop-taken n (length ys) (drop at w) (simp length-drop (omega arith))) ∙ ap (λ (m : ℕ). drop n (take m (drop at w))) (sym long) ∙ ap (drop n) e ∙ drop_at xs ys n k, omega arith)

  pub stands_word : (x : ℕ) (xs : List ℕ) → Stands w at (x ∷ xs) → (get_or w at 0 ≡ x) × (at < length w)
  stands_word x xs (e, h) =
      let z : at ≡ at + 0 = omega arith in
      (ap (λ (m : ℕ). get_or w m 0) z ∙ sym (get_or-drop at w 0 0) ∙ sym (get_or-take (length (x ∷ xs)) (drop at w) 0 0 (omega arith)) ∙ ap (λ (l : List ℕ). get_or l 0 0) e, omega arith)

  -- a part lent from there
  pub stands_part : (xs : List ℕ) (e : ℕ) → e ≡ at + length xs → Stands w at xs → take (e - at) (drop at w) ≡ xs
  stands_part xs e k (p, h) = ap (λ (n : ℕ). take n (drop at w)) (let z : e - at ≡ length xs = omega arith in z) ∙ p

-- the words of a sequence's row
pub record RowAt (w : List ℕ) (at : ℕ) (ss : List Step) : Type 0 where
  pub steps : get_or w at 0 ≡ length ss
  pub words : get_or w (at + 1) 0 ≡ run_length ss
  pub ranges : get_or w (at + 2) 0 ≡ ranges_in ss
  pub shape : Stands w (at + 3) (shape_of ss)
  pub rest : Stands w (at + 3 + 2 * length ss) (step_ranges 0 ss)
  pub end : at + 3 + 2 * length ss + 4 * ranges_in ss ≤ length w

pub row_at : (w : List ℕ) (at : ℕ) (ss : List Step) → Stands w at (sequence_row ss) → RowAt w at ss
unfolding sequence_row
row_at w at ss h =
    let n = length ss in
    let m = run_length ss in
    let k = ranges_in ss in
    let tail = shape_of ss ++ step_ranges 0 ss in
    let three = stands_next w at (n ∷ m ∷ k ∷ []) tail 3 refl h in
    record {
      steps = (stands_word w at n (m ∷ k ∷ tail) h).0;
      words = (stands_word w (at + 1) m (k ∷ tail) (stands_next w at (n ∷ []) (m ∷ k ∷ tail) 1 refl h)).0;
      ranges = (stands_word w (at + 2) k tail (stands_next w at (n ∷ m ∷ []) (k ∷ tail) 2 refl h)).0;
      shape = stands_first w (at + 3) (shape_of ss) (step_ranges 0 ss) three;
      rest = stands_next w (at + 3) (shape_of ss) (step_ranges 0 ss) (2 * n) (length-shape ss) three;
      end = omega (arith, (stands_next w (at + 3) (shape_of ss) (step_ranges 0 ss) (2 * n) (length-shape ss) three).1, length-step_ranges 0 ss);
    }

-- ---- a sequence by its row

pub row_fits : (w : List ℕ) (at : ℕ) (ss : List Step) → RowAt w at ss → length ss ≤ 16 → run_length ss ≤ 32 → RowFits w at
row_fits w at ss r few short =
    let here : take (2 * get_or w at 0) (drop (at + 3) w) ≡ shape_of ss = ap (λ (n : ℕ). take n (drop (at + 3) w)) (ap (2 *◌) r.steps ∙ sym (length-shape ss)) ∙ r.shape.0 in
    record {
      end = omega (arith, r.steps, r.ranges, r.end);
      shape = subst Fits (sym here) (fits-shape ss few short);
      words = r.words ∙ sym (words-shape ss) ∙ ap words_of (sym here);
    }

-- the parts that are lent of the row, and of the register l, whose run words stand from a on
module _ (w : List ℕ) (at : ℕ) (l : List ℕ) (a : ℕ) where
  pub row_asked : RowFits w at → a + get_or w (at + 1) 0 ≤ length l
      → Fits (take ((at + 3 + 2 * get_or w at 0) - (at + 3)) (drop (at + 3) w)) × (length (take ((a + get_or w (at + 1) 0) - a) (drop a l)) ≡ words_of (take ((at + 3 + 2 * get_or w at 0) - (at + 3)) (drop (at + 3) w)))
  row_asked f h =
      let m = get_or w (at + 1) 0 in
      let z : (at + 3 + 2 * get_or w at 0) - (at + 3) ≡ 2 * get_or w at 0 = omega arith in
      let y : (a + m) - a ≡ m = omega arith in
      (subst (λ (n : ℕ). Fits (take n (drop (at + 3) w))) (sym z) f.shape, ap (λ (n : ℕ). length (take n (drop a l))) y ∙ length_part l a m h ∙ f.words ∙ ap (λ (n : ℕ). words_of (take n (drop (at + 3) w))) (sym z))

  module _ (ss : List Step) (h : Stands w at (sequence_row ss)) where
    r : RowAt w at ss
    r = row_at w at ss h

    pub row-past : (at + 3 + 2 * get_or w at 0 + 4 * get_or w (at + 2) 0 ≡ at + length (sequence_row ss)) × (a + get_or w (at + 1) 0 ≡ a + run_length ss)
    row-past = (omega (arith, r.steps, r.ranges, length-row ss), ap (a +◌) r.words)

    pub shape-part : take ((at + 3 + 2 * get_or w at 0) - (at + 3)) (drop (at + 3) w) ≡ shape_of ss
    shape-part = stands_part w (at + 3) (shape_of ss) (at + 3 + 2 * get_or w at 0) (omega (arith, r.steps, length-shape ss)) r.shape

    pub ranges-part : take ((at + 3 + 2 * get_or w at 0 + 4 * get_or w (at + 2) 0) - (at + 3 + 2 * get_or w at 0)) (drop (at + 3 + 2 * get_or w at 0) w) ≡ step_ranges 0 ss
    ranges-part =
        let z : at + 3 + 2 * length ss ≡ at + 3 + 2 * get_or w at 0 = ap (λ (n : ℕ). at + 3 + 2 * n) (sym r.steps) in
        stands_part w (at + 3 + 2 * get_or w at 0) (step_ranges 0 ss) (at + 3 + 2 * get_or w at 0 + 4 * get_or w (at + 2) 0) (omega (arith, r.ranges, length-step_ranges 0 ss)) (subst (λ (n : ℕ). Stands w n (step_ranges 0 ss)) z r.rest)

    pub row-taken : (x : Reading) (out : ℕ) (ys : List ℕ) → a + get_or w (at + 1) 0 ≤ length l
        → (ys ≡ next_run ss (take ((a + get_or w (at + 1) 0) - a) (drop a l)) x) × (out ≡ matched_lengths ss (next_run ss (take ((a + get_or w (at + 1) 0) - a) (drop a l)) x))
        → (put_mid a ((a + get_or w (at + 1) 0) - a) l ys ≡ put a (next_run ss (take (run_length ss) (drop a l)) x) l) × (out ≡ matched_lengths ss (next_run ss (take (run_length ss) (drop a l)) x))
    row-taken x out ys room (ey, eo) =
        let m = get_or w (at + 1) 0 in
        let z : (a + m) - a ≡ run_length ss = omega (arith, r.words) in
        let same : next_run ss (take ((a + m) - a) (drop a l)) x ≡ next_run ss (take (run_length ss) (drop a l)) x = ap (λ (n : ℕ). next_run ss (take n (drop a l)) x) z in
        let long : length ys ≡ m = ap length (ey ∙ same) ∙ length-next_run ss (take (run_length ss) (drop a l)) x (length_part l a (run_length ss) (omega (arith, r.words))) ∙ sym r.words in
        (part-back a m l ys long ∙ ap (λ (xs : List ℕ). put a xs l) (ey ∙ same), eo ∙ ap (matched_lengths ss) same)

-- ---- a bin by its row

pub bin_at : (w : List ℕ) (at : ℕ) (b : TransitionBin) → Stands w at (bin_row b)
    → (get_or w at 0 ≡ b.point) × (get_or w (at + 1) 0 ≡ length b.sequences) × Stands w (at + 2) (concat_of sequence_row b.sequences) × (at + 2 + length (concat_of sequence_row b.sequences) ≡ at + length (bin_row b))
unfolding bin_row
bin_at w at b h =
    let p = b.point in
    let n = length b.sequences in
    let xs = concat_of sequence_row b.sequences in
    ((stands_word w at p (n ∷ xs) h).0, (stands_word w (at + 1) n xs (stands_next w at (p ∷ []) (n ∷ xs) 1 refl h)).0, stands_next w at (p ∷ n ∷ []) xs 2 refl h, omega arith)
