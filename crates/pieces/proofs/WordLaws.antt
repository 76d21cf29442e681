-- Laws for the code that writes pieces: a piece's words read back, and what one cut, one row and the rows that are left stand for in words.
-- Assumes nothing.
use mathlib.Core.Path.{◌≡◌, refl, sym, ap, ap₂, ◌∙◌}
use mathlib.Core.Bool.{Bool, cond}
use mathlib.Core.List.{List, [], ◌∷◌, ◌++◌}
use Prim.Native.Nat.{ℕ, suc, ◌+◌, ◌-◌, ◌*◌, ◌/◌, ◌%◌, ◌^◌, ◌≤◌, ◌<◌, min}
use native.Mathlib.Nat.{mul-le-mul_right, div-mul-le_self}
use native.Mathlib.Omega.{arith}
use lib.ListN.{length, get_or}
use borrow.Author.Tests.{le-leb, lt-leb, lt-ltb, le-ltb}
use Rattle.model.specs.Table.{Range, span, pattern}
use Rattle.model.specs.Raw.{rows}
use Rattle.model.proofs.Lists.{none_left, one_left}
use Rattle.arrays.specs.Put.{put}
use Rattle.arrays.proofs.PutLaws.{put-before}
use Rattle.arrays.proofs.Written.{Written, unwritten}
use Rattle.parts.specs.Rows.{Row, row}
use Rattle.parts.specs.Words.{plan_row_at, plan_rows_at}
use Rattle.parts.proofs.Back.{row_same}
use Rattle.meets.specs.Pieces.{Piece, piece, packed, high_in, part_above, piece_by}
use Rattle.pieces.specs.Cuts.{left_of, step_at, cut_low, cut_high, cuts_from, row_pieces, all_pieces, range_words, piece_words, Cuttable, CutsFit}

-- ---- the second word of a piece

module _ (a b k : ℕ) (small : b < 2 ^ 33) (few : k < 65536) where
  pub span_back : piece_by a (packed b k) ≡ piece (span a b) k
  span_back =
      let high : high_in (packed b k) ≡ b = omega arith in
      let part : packed b k / 2 ^ 33 ≡ k = omega arith in
      ap (λ (c : Bool). piece (cond c (span a (high_in (packed b k))) (pattern a (high_in (packed b k)))) (part_above (packed b k))) (lt-ltb (packed b k) (2 ^ 49) (omega arith))
      ∙ ap₂ (λ (x y : ℕ). piece (span a x) (y % 65536)) high part
      ∙ ap (piece (span a b)) (let z : k % 65536 ≡ k = omega arith in z)

  pub pattern_back : piece_by a (packed b (k + 65536)) ≡ piece (pattern a b) k
  pattern_back =
      let high : high_in (packed b (k + 65536)) ≡ b = omega arith in
      let part : packed b (k + 65536) / 2 ^ 33 ≡ k + 65536 = omega arith in
      ap (λ (c : Bool). piece (cond c (span a (high_in (packed b (k + 65536)))) (pattern a (high_in (packed b (k + 65536))))) (part_above (packed b (k + 65536)))) (le-ltb (packed b (k + 65536)) (2 ^ 49) (omega arith))
      ∙ ap₂ (λ (x y : ℕ). piece (pattern a x) (y % 65536)) high part
      ∙ ap (piece (pattern a b)) (let z : (k + 65536) % 65536 ≡ k = omega arith in z)

-- ---- the words of pieces

pub words_append : (xs ys : List Piece) → piece_words (xs ++ ys) ≡ piece_words xs ++ piece_words ys
unfolding piece_words
words_append [] ys = refl
words_append (q ∷ xs) ys = ap (range_words q.range q.part ++◌) (words_append xs ys) ∙ one q.range
  where
    one : (R : Range) → range_words R q.part ++ (piece_words xs ++ piece_words ys) ≡ (range_words R q.part ++ piece_words xs) ++ piece_words ys
    one (span lo hi) = refl
    one (pattern bits mask) = refl

pub words_length : (qs : List Piece) → length (piece_words qs) ≡ 2 * length qs
unfolding piece_words
words_length [] = refl
words_length (q ∷ qs) = one q.range (words_length qs)
  where
    one : (R : Range) → length (piece_words qs) ≡ 2 * length qs → length (range_words R q.part ++ piece_words qs) ≡ 2 * suc (length qs)
    one (span lo hi) e = omega arith
    one (pattern bits mask) e = omega arith

-- ---- one cut

pub product-most : (j top share x : ℕ) → j ≤ top → top * share ≤ x → j * share ≤ x
product-most j top share x h k = omega (arith, mul-le-mul_right share h)

module _ (lo hi before share top j : ℕ) where
  pub high_inner : (z : ℕ) → j < top → z ≡ lo + ((j + 1) * share - before) - 1 → z ≡ cut_high lo hi before share top j
  high_inner z h e = e ∙ sym (ap (λ (b : Bool). cond b (cut_low lo before share (j + 1) - 1) hi) (lt-ltb j top h))

  pub high_last : top ≤ j → hi ≡ cut_high lo hi before share top j
  high_last h = sym (ap (λ (b : Bool). cond b (cut_low lo before share (j + 1) - 1) hi) (le-ltb j top h))

module _ (f : ℕ → ℕ) (a b k y : ℕ) (e : y ≡ f a) where
  pub left_none : b < y → (at : ℕ) (l : List ℕ) → (at ≡ at + length (piece_words (left_of f a b k))) × (l ≡ put at (piece_words (left_of f a b k)) l)
  unfolding piece_words
  left_none h at l = unwritten at (piece_words (left_of f a b k)) l (ap (λ (c : Bool). piece_words (cond c (piece (span (f a) b) k ∷ []) [])) (lt-leb (f a) b (omega arith)))

  pub left_words : y ≤ b → piece_words (left_of f a b k) ≡ y ∷ packed b k ∷ []
  unfolding piece_words
  left_words h =
      ap (λ (c : Bool). piece_words (cond c (piece (span (f a) b) k ∷ []) [])) (le-leb (f a) b (omega arith))
      ∙ ap (λ (x : ℕ). x ∷ packed b k ∷ []) (sym e)

-- ---- the cuts of a row

module _ (f : ℕ → ℕ) (lo hi before share first top j : ℕ) where
  pub cuts_turn : (a b k : ℕ) → a ≡ cut_low lo before share j → b ≡ cut_high lo hi before share top j → k ≡ first + j → j ≤ top
      → piece_words (cuts_from f lo hi before share first top j (top + 1 - j)) ≡ piece_words (left_of f a b k) ++ piece_words (cuts_from f lo hi before share first top (j + 1) (top + 1 - (j + 1)))
  unfolding cuts_from
  cuts_turn a b k ea eb ek h =
      ap (λ (n : ℕ). piece_words (cuts_from f lo hi before share first top j n)) (one_left (top + 1) j (omega arith))
      ∙ words_append (left_of f (cut_low lo before share j) (cut_high lo hi before share top j) (first + j)) (cuts_from f lo hi before share first top (j + 1) (top + 1 - (j + 1)))
      ∙ ap (◌++ piece_words (cuts_from f lo hi before share first top (j + 1) (top + 1 - (j + 1)))) (sym same)
    where
      same : piece_words (left_of f a b k) ≡ piece_words (left_of f (cut_low lo before share j) (cut_high lo hi before share top j) (first + j))
      same =
          ap (λ (x : ℕ). piece_words (left_of f x b k)) ea
          ∙ ap (λ (x : ℕ). piece_words (left_of f (cut_low lo before share j) x k)) eb
          ∙ ap (λ (x : ℕ). piece_words (left_of f (cut_low lo before share j) (cut_high lo hi before share top j) x)) ek

  pub cuts_end : top < j → piece_words (cuts_from f lo hi before share first top j (top + 1 - j)) ≡ []
  unfolding cuts_from piece_words
  cuts_end h = ap (λ (n : ℕ). piece_words (cuts_from f lo hi before share first top j n)) (none_left (top + 1) j (omega arith))

-- ---- a row

module _ (f : ℕ → ℕ) (lo hi before first last share from : ℕ) (start : from ≡ min (before / share) last) where
  from_is : from ≡ step_at before share last 0
  from_is = start ∙ ap (λ (x : ℕ). min (x / share) last) (let z : before ≡ before + 0 = omega arith in z)

  pub row_span : (top : ℕ) → top ≡ min ((before + (hi - lo)) / share) last
      → piece_words (row_pieces f (row (span lo hi) before first last share)) ≡ piece_words (cuts_from f lo hi before share first top from (top + 1 - from))
  unfolding row_pieces
  row_span top t = ap₂ (λ (x y : ℕ). piece_words (cuts_from f lo hi before share first x y (x + 1 - y))) (sym t) (sym from_is)

  pub row_pattern : piece_words (row_pieces f (row (pattern lo hi) before first last share)) ≡ lo ∷ packed hi (first + from + 65536) ∷ []
  unfolding row_pieces piece_words
  row_pattern = ap (λ (x : ℕ). lo ∷ packed hi (first + x + 65536) ∷ []) (sym from_is)

pub row_fits : (lo hi before first last share low : ℕ) → Cuttable low (row (span lo hi) before first last share) → (top : ℕ) → top ≡ min ((before + (hi - lo)) / share) last → CutsFit lo hi before share first top
row_fits lo hi before first last share low cut top t =
    let z : top ≤ (before + (hi - lo)) / share = omega arith in
    record {
      order = cut.bounds.1;
      high = cut.bounds.2;
      small = cut.before;
      most = omega (arith, mul-le-mul_right share z, div-mul-le_self (before + (hi - lo)) share);
      room = omega (arith, cut.room);
    }

-- ---- the rows

module _ (f : ℕ → ℕ) (w : List ℕ) (from n i : ℕ) where
  pub rows_turn : (r : Row) → r ≡ plan_row_at w (from + 7 * i) → i < n
      → piece_words (all_pieces f (plan_rows_at w (from + 7 * i) (n - i))) ≡ piece_words (row_pieces f r) ++ piece_words (all_pieces f (plan_rows_at w (from + 7 * (i + 1)) (n - (i + 1))))
  unfolding rows all_pieces
  rows_turn r e h =
      ap (λ (m : ℕ). piece_words (all_pieces f (plan_rows_at w (from + 7 * i) m))) (one_left n i h)
      ∙ words_append (row_pieces f (plan_row_at w (from + 7 * i))) (all_pieces f (plan_rows_at w (from + 7 * i + 7) (n - (i + 1))))
      ∙ ap₂ (λ (x : Row) (a : ℕ). piece_words (row_pieces f x) ++ piece_words (all_pieces f (plan_rows_at w a (n - (i + 1))))) (sym e) (let z : from + 7 * i + 7 ≡ from + 7 * (i + 1) = omega arith in z)

  pub rows_end : n ≤ i → piece_words (all_pieces f (plan_rows_at w (from + 7 * i) (n - i))) ≡ []
  unfolding rows all_pieces piece_words
  rows_end h = ap (λ (m : ℕ). piece_words (all_pieces f (plan_rows_at w (from + 7 * i) m))) (none_left n i h)

pub rows_start : (f : ℕ → ℕ) (w : List ℕ) (from n : ℕ) → piece_words (all_pieces f (plan_rows_at w (from + 7 * 0) (n - 0))) ≡ piece_words (all_pieces f (plan_rows_at w from n))
rows_start f w from n = ap₂ (λ (x y : ℕ). piece_words (all_pieces f (plan_rows_at w x y))) (let z : from + 7 * 0 ≡ from = omega arith in z) (let z : n - 0 ≡ n = omega arith in z)

-- a row is the same after writes behind it
pub row_kept : (at : ℕ) (whole l₀ : List ℕ) (c : ℕ) (l rest : List ℕ) → Written at whole l₀ c l rest → at + length whole ≤ length l₀ → at ≤ c → (from : ℕ) → from + 7 ≤ at → plan_row_at l from ≡ plan_row_at l₀ from
row_kept at whole l₀ c l rest inv fit h from k = row_same l l₀ from from λ i j.
    sym (put-before c rest l (from + i) 0 (omega (arith, inv.place, inv.kept)) (omega arith)) ∙ ap (λ (x : List ℕ). get_or x (from + i) 0) inv.same ∙ put-before at whole l₀ (from + i) 0 (omega arith) (omega arith)
