-- Rows of words as they are written from the table's bytes: ranges, shapes, sequences.
-- Assumes nothing.
use mathlib.Core.Path.{◌≡◌, refl, sym, ap, ap₂, ◌∙◌}
use mathlib.Core.Bool.{Bool, cond}
use mathlib.Core.List.{List, [], ◌∷◌, ◌++◌, append_assoc}
use Prim.Native.Nat.{ℕ, zero, suc, ◌+◌, ◌-◌, ◌*◌, ◌^◌, ◌≤◌, ◌<◌}
use native.Mathlib.Omega.{arith}
use lib.ListN.{length, set, take, drop, length-set, length-append}
use lib.Seq.{take-append-le, take-take, drop_at, length-take-le}
use borrow.Author.Tests.{eq-eqb, ne_eqb}
use Rattle.model.specs.Lists.{sum_of, concat_of}
use Rattle.model.specs.Table.{Range, span, pattern, Step}
use Rattle.model.specs.Values.{field_value}
use Rattle.model.specs.Sampling.{run_length}
use Rattle.model.specs.Format.{byte, u64, range_record}
use Rattle.model.specs.Raw.{rows, ranges_at, range_total, steps_at}
use Rattle.model.proofs.AccessTransitions.{ranges_in}
use Rattle.model.proofs.Lists.{one_left, none_left}
use Rattle.model.proofs.RawLaws.{rows_turn, rows_start, rows_end, length-rows}
use Rattle.ranges.specs.Types.{value_at}
use Rattle.arrays.specs.Put.{put}
use Rattle.arrays.proofs.PutLaws.{put-nil, put-cons, put_next, length-put}
use Rattle.sequences.specs.Shapes.{shape_of}
use Rattle.sequences.proofs.Places.{length-steps_at, ranges-suc}
use Rattle.sequences.proofs.Shapes.{length-shape}
use Rattle.runs.specs.Rows.{range_words, step_ranges, sequence_row, shape_at, mosts_at}

-- ---- words in a row

pub put_two : (at a b : ℕ) (l : List ℕ) → at + 2 ≤ length l → set (set l at a) (at + 1) b ≡ put at (a ∷ b ∷ []) l
put_two at a b l h =
    let l₁ = set l at a in
    sym (put-nil (at + 1 + 1) (set l₁ (at + 1) b)) ∙ put-cons (at + 1) b [] l₁ (simp length-set (omega arith)) ∙ put-cons at a (b ∷ []) l (omega arith)

pub put_three : (at a b c : ℕ) (l : List ℕ) → at + 3 ≤ length l → set (set (set l at a) (at + 1) b) (at + 2) c ≡ put at (a ∷ b ∷ c ∷ []) l
put_three at a b c l h =
    let l₂ = set (set l at a) (at + 1) b in
    sym (put-nil (at + 2 + 1) (set l₂ (at + 2) c))
    ∙ put-cons (at + 2) c [] l₂ (simp length-set (omega arith))
    ∙ ap (put (at + 2) (c ∷ [])) (put_two at a b l (omega arith))
    ∙ put_next at 2 (a ∷ b ∷ []) (c ∷ []) l refl (omega arith)

-- a write that ends where an earlier one begins
pub put_under : (at n : ℕ) (xs ys l : List ℕ) → length xs ≡ n → at + n + length ys ≤ length l → put at xs (put (at + n) ys l) ≡ put at (xs ++ ys) l
unfolding put
put_under at n xs ys l e h =
    let p = take (at + n) l in
    let k : length p ≡ at + n = length-take-le (at + n) l (omega arith) in
    let first : take at (p ++ ys ++ drop (at + n + length ys) l) ≡ take at l
    = take-append-le at (p ++ ys) (drop (at + n + length ys) l) (omega (arith, length-append p ys)) ∙ take-append-le at p ys (omega arith) ∙ take-shorter in
    let rest : drop (at + length xs) ((p ++ ys) ++ drop (at + n + length ys) l) ≡ ys ++ drop (at + n + length ys) l
    = ap (λ (m : ℕ). drop (at + m) ((p ++ ys) ++ drop (at + n + length ys) l)) e ∙ ap (drop (at + n)) (append_assoc p ys (drop (at + n + length ys) l)) ∙ drop_at p (ys ++ drop (at + n + length ys) l) (at + n) k in
    let far : at + n + length ys ≡ at + length (xs ++ ys) = omega (arith, length-append xs ys) in
    ap₂ (λ (a b : List ℕ). (a ++ xs) ++ b) first rest
    ∙ sym (append_assoc (take at l ++ xs) ys (drop (at + n + length ys) l))
    ∙ ap₂ (λ (a : List ℕ) (m : ℕ). a ++ drop m l) (append_assoc (take at l) xs ys) far
  where
    take-shorter : take at (take (at + n) l) ≡ take at l
    take-shorter = take-take at (at + n) l (omega arith)

-- ---- one range

module _ (s : List ℕ) (p bit : ℕ) (k a b : ℕ) (ek : k ≡ byte s p) (ea : a ≡ u64 s (p + 1)) (eb : b ≡ u64 s (p + 9)) (at : ℕ) (l l' : List ℕ) where
  here : Bool → Range
  here c = cond c (span (field_value (u64 s (p + 1))) (field_value (u64 s (p + 9)))) (pattern (u64 s (p + 1)) (u64 s (p + 9)))

  pub span_written : (lo hi : ℕ) → k ≡ 0 → lo ≡ value_at a → hi ≡ value_at b → l' ≡ put at (bit ∷ 0 ∷ lo ∷ hi ∷ []) l → l' ≡ put at (range_words bit (range_record s p)) l
  unfolding here value_at
  span_written lo hi z el eh e =
      e ∙ ap₂ (λ (x y : ℕ). put at (bit ∷ 0 ∷ x ∷ y ∷ []) l) (el ∙ ap field_value ea) (eh ∙ ap field_value eb)
      ∙ ap (λ (c : Bool). put at (range_words bit (here c)) l) (sym (eq-eqb (byte s p) 0 (sym ek ∙ z)))

  pub pattern_written : (k ≡ 0 → ⊥) → l' ≡ put at (bit ∷ 1 ∷ a ∷ b ∷ []) l → l' ≡ put at (range_words bit (range_record s p)) l
  unfolding here
  pattern_written z e =
      e ∙ ap₂ (λ (x y : ℕ). put at (bit ∷ 1 ∷ x ∷ y ∷ []) l) ea eb
      ∙ ap (λ (c : Bool). put at (range_words bit (here c)) l) (sym (ne_eqb (byte s p) 0 (λ q. z (ek ∙ q))))

pub length-range : (bit : ℕ) (r : Range) → length (range_words bit r) ≡ 4
length-range bit (span lo hi) = refl
length-range bit (pattern bits mask) = refl

pub length-ranges : (bit : ℕ) (rs : List Range) → length (concat_of (range_words bit) rs) ≡ 4 * length rs
unfolding concat_of
length-ranges bit [] = refl
length-ranges bit (r ∷ rs) = omega (arith, length-append (range_words bit r) (concat_of (range_words bit) rs), length-range bit r, length-ranges bit rs)

-- ---- ranges in a row

module _ (s : List ℕ) (r n bit : ℕ) where
  pub ranges_start : concat_of (range_words bit) (ranges_at s (r + 17 * 0) (n - 0)) ≡ concat_of (range_words bit) (ranges_at s r n)
  ranges_start = ap (concat_of (range_words bit)) (rows_start (range_record s) 17 r n)

  pub ranges_turn : (i : ℕ) → i < n
      → concat_of (range_words bit) (ranges_at s (r + 17 * i) (n - i)) ≡ range_words bit (range_record s (r + 17 * i)) ++ concat_of (range_words bit) (ranges_at s (r + 17 * (i + 1)) (n - (i + 1)))
  unfolding concat_of
  ranges_turn i h = ap (concat_of (range_words bit)) (rows_turn (range_record s) 17 r n i h)

  pub ranges_none : (i : ℕ) → n ≤ i → concat_of (range_words bit) (ranges_at s (r + 17 * i) (n - i)) ≡ []
  unfolding concat_of
  ranges_none i h = ap (concat_of (range_words bit)) (rows_end (range_record s) 17 (r + 17 * i) n i h)

  pub ranges_length : length (concat_of (range_words bit) (ranges_at s r n)) ≡ 4 * n
  ranges_length = length-ranges bit (ranges_at s r n) ∙ ap (4 *◌) (length-rows (range_record s) 17 r n)

-- ---- the ranges of steps

module _ (s : List ℕ) (p r n : ℕ) where
  pub step_ranges_start : step_ranges 0 (steps_at s (p + 3 * 0) (r + 17 * 0) (n - 0)) ≡ step_ranges 0 (steps_at s p r n)
  step_ranges_start =
      let e : p + 3 * 0 ≡ p = omega arith in
      let d : r + 17 * 0 ≡ r = omega arith in
      let m : n - 0 ≡ n = omega arith in
      ap₂ (λ (x y : ℕ). step_ranges 0 (steps_at s x y (n - 0))) e d ∙ ap (λ (x : ℕ). step_ranges 0 (steps_at s p r x)) m

  pub step_ranges_turn : (i total k bit : ℕ) → i < n → k ≡ byte s (p + 3 * i) → bit ≡ 2 ^ i
      → step_ranges i (steps_at s (p + 3 * i) (r + 17 * total) (n - i))
      ≡ concat_of (range_words bit) (ranges_at s (r + 17 * total) k) ++ step_ranges (i + 1) (steps_at s (p + 3 * (i + 1)) (r + 17 * (total + k)) (n - (i + 1)))
  unfolding steps_at step_ranges
  step_ranges_turn i total k bit h ek eb =
      let x : p + 3 * i + 3 ≡ p + 3 * (i + 1) = omega arith in
      let y : r + 17 * total + 17 * byte s (p + 3 * i) ≡ r + 17 * (total + k) = omega arith in
      let rest : ℕ → ℕ → ℕ → List ℕ = λ j u v. step_ranges j (steps_at s u v (n - (i + 1))) in
      ap (λ (m : ℕ). step_ranges i (steps_at s (p + 3 * i) (r + 17 * total) m)) (one_left n i h)
      ∙ ap₂ (λ (c m : ℕ). concat_of (range_words c) (ranges_at s (r + 17 * total) m) ++ rest (suc i) (p + 3 * i + 3) (r + 17 * total + 17 * byte s (p + 3 * i))) (sym eb) (sym ek)
      ∙ ap₂ (λ (u v : ℕ). concat_of (range_words bit) (ranges_at s (r + 17 * total) k) ++ rest (suc i) u v) x y
      ∙ ap (λ (j : ℕ). concat_of (range_words bit) (ranges_at s (r + 17 * total) k) ++ rest j (p + 3 * (i + 1)) (r + 17 * (total + k))) (let z : suc i ≡ i + 1 = omega arith in z)

  pub step_ranges_none : (i total : ℕ) → n ≤ i → step_ranges i (steps_at s (p + 3 * i) (r + 17 * total) (n - i)) ≡ []
  unfolding steps_at step_ranges
  step_ranges_none i total h = ap (λ (m : ℕ). step_ranges i (steps_at s (p + 3 * i) (r + 17 * total) m)) (none_left n i h)

-- how many there are
module _ (s : List ℕ) (p n : ℕ) where
  pub total_start : range_total s (p + 3 * 0) (n - 0) ≡ range_total s p n
  total_start = ap₂ (range_total s) (let y : p + 3 * 0 ≡ p = omega arith in y) (let y : n - 0 ≡ n = omega arith in y)

  pub total_turn : (i : ℕ) → i < n → range_total s (p + 3 * i) (n - i) ≡ byte s (p + 3 * i) + range_total s (p + 3 * (i + 1)) (n - (i + 1))
  total_turn i h =
      ap (range_total s (p + 3 * i)) (one_left n i h)
      ∙ ranges-suc s (p + 3 * i) (n - (i + 1))
      ∙ ap (λ (x : ℕ). byte s (p + 3 * i) + range_total s x (n - (i + 1))) (let y : p + 3 * i + 3 ≡ p + 3 * (i + 1) = omega arith in y)

  pub total_end : (i : ℕ) → n ≤ i → range_total s (p + 3 * i) (n - i) ≡ 0
  total_end i h = ap (range_total s (p + 3 * i)) (none_left n i h) ∙ (unfold range_total rows sum_of in refl)

-- ---- shapes

module _ (s : List ℕ) (p n : ℕ) where
  pub shape_start : shape_at s (p + 3 * 0) (n - 0) ≡ shape_at s p n
  shape_start = ap₂ (shape_at s) (let y : p + 3 * 0 ≡ p = omega arith in y) (let y : n - 0 ≡ n = omega arith in y)

  pub shape_turn : (i a b : ℕ) → i < n → a ≡ byte s (p + 3 * i + 1) → b ≡ byte s (p + 3 * i + 2) → shape_at s (p + 3 * i) (n - i) ≡ (a ∷ b ∷ []) ++ shape_at s (p + 3 * (i + 1)) (n - (i + 1))
  unfolding shape_at
  shape_turn i a b h ea eb =
      ap (shape_at s (p + 3 * i)) (one_left n i h)
      ∙ ap₂ (λ (x y : ℕ). x ∷ y ∷ shape_at s (p + 3 * i + 3) (n - (i + 1))) (sym ea) (sym eb)
      ∙ ap (λ (x : ℕ). a ∷ b ∷ shape_at s x (n - (i + 1))) (let y : p + 3 * i + 3 ≡ p + 3 * (i + 1) = omega arith in y)

  pub shape_none : (i : ℕ) → n ≤ i → shape_at s (p + 3 * i) (n - i) ≡ []
  unfolding shape_at
  shape_none i h = ap (shape_at s (p + 3 * i)) (none_left n i h)

  pub mosts_start : mosts_at s (p + 3 * 0) (n - 0) ≡ mosts_at s p n
  mosts_start = ap₂ (mosts_at s) (let y : p + 3 * 0 ≡ p = omega arith in y) (let y : n - 0 ≡ n = omega arith in y)

  pub mosts_turn : (i : ℕ) → i < n → mosts_at s (p + 3 * i) (n - i) ≡ byte s (p + 3 * i + 2) + mosts_at s (p + 3 * (i + 1)) (n - (i + 1))
  unfolding mosts_at
  mosts_turn i h =
      ap (mosts_at s (p + 3 * i)) (one_left n i h)
      ∙ ap (λ (x : ℕ). byte s (p + 3 * i + 2) + mosts_at s x (n - (i + 1))) (let y : p + 3 * i + 3 ≡ p + 3 * (i + 1) = omega arith in y)

  pub mosts_end : (i : ℕ) → n ≤ i → mosts_at s (p + 3 * i) (n - i) ≡ 0
  unfolding mosts_at
  mosts_end i h = ap (mosts_at s (p + 3 * i)) (none_left n i h)

pub length-shape_at : (s : List ℕ) (p n : ℕ) → length (shape_at s p n) ≡ 2 * n
unfolding shape_at
length-shape_at s p zero = refl
length-shape_at s p (suc n) = omega (arith, length-shape_at s (p + 3) n)

-- the same of the steps themselves
pub shape_of_lem : (s : List ℕ) (p r n : ℕ) → shape_of (steps_at s p r n) ≡ shape_at s p n
unfolding shape_of shape_at steps_at
shape_of_lem s p r zero = refl
shape_of_lem s p r (suc n) = ap (λ (x : List ℕ). byte s (p + 1) ∷ byte s (p + 2) ∷ x) (shape_of_lem s (p + 3) (r + 17 * byte s p) n)

pub words_of : (s : List ℕ) (p r n : ℕ) → run_length (steps_at s p r n) ≡ mosts_at s p n
unfolding mosts_at steps_at sum_of
words_of s p r zero = refl
words_of s p r (suc n) = ap (byte s (p + 2) +◌) (words_of s (p + 3) (r + 17 * byte s p) n)

pub ranges_of_lem : (s : List ℕ) (p r n : ℕ) → ranges_in (steps_at s p r n) ≡ range_total s p n
unfolding ranges_in steps_at sum_of
ranges_of_lem s p r zero = unfold range_total rows in refl
ranges_of_lem s p r (suc n) = ap₂ ◌+◌ (length-rows (range_record s) 17 r (byte s p)) (ranges_of_lem s (p + 3) (r + 17 * byte s p) n) ∙ sym (ranges-suc s p n)

-- ---- a sequence

pub length-step_ranges : (i : ℕ) (ss : List Step) → length (step_ranges i ss) ≡ 4 * ranges_in ss
unfolding step_ranges ranges_in sum_of
length-step_ranges i [] = refl
length-step_ranges i (s ∷ ss) =
    omega (arith, length-append (concat_of (range_words (2 ^ i)) s.ranges) (step_ranges (suc i) ss), length-ranges (2 ^ i) s.ranges, length-step_ranges (suc i) ss)

pub length-row : (ss : List Step) → length (sequence_row ss) ≡ 3 + 2 * length ss + 4 * ranges_in ss
unfolding sequence_row
length-row ss = omega (arith, length-append (shape_of ss) (step_ranges 0 ss), length-shape ss, length-step_ranges 0 ss)

module _ (s : List ℕ) (p r n : ℕ) where
  pub row_length : length (sequence_row (steps_at s p r n)) ≡ 3 + 2 * n + 4 * range_total s p n
  row_length = omega (arith, length-row (steps_at s p r n), length-steps_at s p r n, ranges_of_lem s p r n)

  pub row_ranges : length (step_ranges 0 (steps_at s p r n)) ≡ 4 * range_total s p n
  row_ranges = omega (arith, length-step_ranges 0 (steps_at s p r n), ranges_of_lem s p r n)

  -- shape and ranges are written, then the three words before them
  pub row_written : (at m k : ℕ) (l l₁ l₂ : List ℕ) → at + length (sequence_row (steps_at s p r n)) ≤ length l → m ≡ mosts_at s p n → k ≡ range_total s p n
      → l₁ ≡ put (at + 3) (shape_at s p n) l → l₂ ≡ put (at + 3 + 2 * n) (step_ranges 0 (steps_at s p r n)) l₁
      → set (set (set l₂ at n) (at + 1) m) (at + 2) k ≡ put at (sequence_row (steps_at s p r n)) l
  unfolding sequence_row
  row_written at m k l l₁ l₂ h em ek e₁ e₂ =
      let ss = steps_at s p r n in
      let ys = shape_at s p n ++ step_ranges 0 ss in
      let long = row_length in
      let lys : length ys ≡ 2 * n + 4 * range_total s p n = omega (arith, length-append (shape_at s p n) (step_ranges 0 ss), length-shape_at s p n, row_ranges) in
      let w : l₂ ≡ put (at + 3) ys l
      = e₂ ∙ ap (put (at + 3 + 2 * n) (step_ranges 0 ss)) e₁ ∙ put_next (at + 3) (2 * n) (shape_at s p n) (step_ranges 0 ss) l (length-shape_at s p n) (omega arith) in
      let k₂ : length l₂ ≡ length l = ap length w ∙ length-put (at + 3) ys l (omega arith) in
      put_three at n m k l₂ (omega arith)
      ∙ ap (put at (n ∷ m ∷ k ∷ [])) w
      ∙ put_under at 3 (n ∷ m ∷ k ∷ []) ys l refl (omega arith)
      ∙ ap₂ (λ (x : ℕ) (zs : List ℕ). put at (x ∷ m ∷ k ∷ zs ++ step_ranges 0 ss) l) (sym (length-steps_at s p r n)) (sym (shape_of_lem s p r n))
      ∙ ap₂ (λ (x y : ℕ). put at (length ss ∷ x ∷ y ∷ shape_of ss ++ step_ranges 0 ss) l) (em ∙ sym (words_of s p r n)) (ek ∙ sym (ranges_of_lem s p r n))

-- ---- a bin

-- two words, and the rows after them
pub bin_written : (at a b : ℕ) (xs l l' : List ℕ) → at + 2 ≤ length l → l' ≡ put (at + 2) xs (set (set l at a) (at + 1) b) → l' ≡ put at (a ∷ b ∷ xs) l
bin_written at a b xs l l' h e = e ∙ ap (put (at + 2) xs) (put_two at a b l h) ∙ put_next at 2 (a ∷ b ∷ []) xs l refl h
