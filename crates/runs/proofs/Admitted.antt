-- The bits of the steps that a reading lies in, from the words of their ranges.
-- Assumes nothing.
use mathlib.Core.Path.{◌≡◌, refl, sym, ap, ap₂, ◌∙◌}
use mathlib.Core.Bool.{Bool, true, false, ◌||◌, cond}
use mathlib.Core.List.{List, [], ◌∷◌, ◌++◌, append_assoc}
use Prim.Native.Nat.{ℕ, suc, ◌+◌, ◌-◌, ◌*◌, ◌/◌, ◌%◌, ◌^◌, ◌≤◌, ◌<◌, max}
use native.Mathlib.Nat.{pow-suc, mul_assoc, mul_comm, add-zero}
use native.Mathlib.Omega.{arith}
use lib.Bits.{bit_or, or_step, or_zero_l, or_zero_r, or_self, or_block}
use lib.ListN.{length, get_or, length-append}
use lib.Seq.{get_or-append-add}
use lib.Pow.{pow_pos}
use Rattle.model.specs.Lists.{sum_of, concat_of, or_all, as_bit}
use Rattle.model.specs.Table.{Range, span, pattern, Step}
use Rattle.model.specs.Values.{in_range, in_ranges}
use Rattle.model.specs.Sampling.{Reading, known, is_in}
use Rattle.model.specs.Raw.{rows}
use Rattle.model.proofs.AccessTransitions.{ranges_in}
use Rattle.model.proofs.RunBits.{or_assoc}
use Rattle.model.proofs.RawLaws.{rows-add, rows_turn, rows_start, rows_end}
use Rattle.sequences.specs.Shapes.{admitted_bits}
use Rattle.runs.specs.Rows.{range_words, range_of, step_ranges}
use Rattle.runs.proofs.RowLaws.{length-range, length-ranges, length-step_ranges}

-- ---- one range

-- the bit of the range at a place of w, if it holds v
abbrev pub bit_at : List ℕ → ℕ → ℕ → ℕ
bit_at w v at = cond (in_range (range_of (get_or w (at + 1) 0) (get_or w (at + 2) 0) (get_or w (at + 3) 0)) v) (get_or w at 0) 0

-- those of n ranges, from the i-th on
abbrev pub bits_from : List ℕ → ℕ → ℕ → ℕ → ℕ
bits_from w v i n = or_all (rows (bit_at w v) 4 (0 + 4 * i) (n - i))

pub bits-turn : (w : List ℕ) (v i n out x : ℕ) → i < n → x ≡ bit_at w v (4 * i) → bit_or (bit_or out x) (bits_from w v (i + 1) n) ≡ bit_or out (bits_from w v i n)
unfolding or_all
bits-turn w v i n out x h e =
    let z : 4 * i ≡ 0 + 4 * i = omega arith in
    or_assoc out x (bits_from w v (i + 1) n)
    ∙ ap (λ (y : ℕ). bit_or out (bit_or y (bits_from w v (i + 1) n))) (e ∙ ap (bit_at w v) z)
    ∙ ap (λ (l : List ℕ). bit_or out (or_all l)) (sym (rows_turn (bit_at w v) 4 0 n i h))

pub bits-end : (w : List ℕ) (v i n out : ℕ) → n ≤ i → bit_or out (bits_from w v i n) ≡ out
unfolding or_all
bits-end w v i n out h = ap (λ (l : List ℕ). bit_or out (or_all l)) (rows_end (bit_at w v) 4 (0 + 4 * i) n i h) ∙ or_zero_r out

-- ---- the ranges of a step

or-append : (xs ys : List ℕ) → or_all (xs ++ ys) ≡ bit_or (or_all xs) (or_all ys)
unfolding or_all
or-append [] ys = sym (or_zero_l (or_all ys))
or-append (x ∷ xs) ys = ap (bit_or x) (or-append xs ys) ∙ sym (or_assoc x (or_all xs) (or_all ys))

or-cond : (b c : Bool) (x : ℕ) → bit_or (cond b x 0) (cond c x 0) ≡ cond (b || c) x 0
or-cond true true x = or_self x
or-cond true false x = or_zero_r x
or-cond false c x = or_zero_l (cond c x 0)

word_at : (pre ws : List ℕ) (j : ℕ) → get_or (pre ++ ws) (length pre + j) 0 ≡ get_or ws j 0
word_at pre ws j = get_or-append-add pre ws j 0

bit-here : (pre post : List ℕ) (bit v : ℕ) (r : Range) → bit_at (pre ++ (range_words bit r ++ post)) v (length pre) ≡ cond (in_range r v) bit 0
bit-here pre post bit v r = go r
  where
    first : (ws : List ℕ) → get_or (pre ++ ws) (length pre) 0 ≡ get_or ws 0 0
    first ws = ap (λ (x : ℕ). get_or (pre ++ ws) x 0) (let z : length pre ≡ length pre + 0 = omega arith in z) ∙ word_at pre ws 0

    words : (ws : List ℕ) → bit_at (pre ++ ws) v (length pre) ≡ cond (in_range (range_of (get_or ws 1 0) (get_or ws 2 0) (get_or ws 3 0)) v) (get_or ws 0 0) 0
    words ws = rw (word_at pre ws 1, word_at pre ws 2, word_at pre ws 3, first ws)

    go : (q : Range) → bit_at (pre ++ (range_words bit q ++ post)) v (length pre) ≡ cond (in_range q v) bit 0
    go (span lo hi) = words (bit ∷ 0 ∷ lo ∷ hi ∷ post)
    go (pattern bits mask) = words (bit ∷ 1 ∷ bits ∷ mask ∷ post)

ranges_bits : (bit v : ℕ) (rs : List Range) (w pre post : List ℕ) (at : ℕ) → at ≡ length pre → w ≡ pre ++ (concat_of (range_words bit) rs ++ post)
    → or_all (rows (bit_at w v) 4 at (length rs)) ≡ cond (in_ranges rs v) bit 0
unfolding rows concat_of or_all in_ranges
ranges_bits bit v [] w pre post at ea ew = refl
ranges_bits bit v (r ∷ rs) w pre post at ea ew =
    let own = range_words bit r in
    let others = concat_of (range_words bit) rs ++ post in
    let e₁ : w ≡ pre ++ (own ++ others) = ew ∙ ap (pre ++◌) (append_assoc own (concat_of (range_words bit) rs) post) in
    let e₂ : w ≡ (pre ++ own) ++ others = e₁ ∙ sym (append_assoc pre own others) in
    ap₂ bit_or
    (ap₂ (λ (x : List ℕ) (y : ℕ). bit_at x v y) e₁ ea ∙ bit-here pre others bit v r)
    (ranges_bits bit v rs w (pre ++ own) post (at + 4) (omega (arith, length-append pre own, length-range bit r)) e₂)
    ∙ or-cond (in_range r v) (in_ranges rs v) bit

-- ---- all steps

-- a bit below, and the bits above it
or-low : (b : Bool) (x : ℕ) → bit_or (as_bit b) (2 * x) ≡ as_bit b + 2 * x
or-low true x =
    let h : 2 * x / 2 ≡ x = omega arith in
    let m : max 1 (2 * x % 2) ≡ 1 = omega arith in
    or_step 1 (2 * x) ∙ ap₂ (λ (y z : ℕ). y * 2 + z) (or_zero_l (2 * x / 2) ∙ h) m ∙ omega arith
or-low false x = or_zero_l (2 * x) ∙ omega arith

or_shifted : (i : ℕ) (b : Bool) (x : ℕ) → bit_or (cond b (2 ^ i) 0) (x * 2 ^ suc i) ≡ (as_bit b + 2 * x) * 2 ^ i
or_shifted i b x =
    let pos : 0 < 2 ^ i = pow_pos i in
    let first : cond b (2 ^ i) 0 ≡ as_bit b * 2 ^ i + 0 = low b in
    let second : x * 2 ^ suc i ≡ 2 * x * 2 ^ i + 0 = ap (x *◌) (pow-suc 2 i) ∙ shuffle x (2 ^ i) in
    ap₂ bit_or first second ∙ or_block i (as_bit b) (2 * x) 0 0 pos pos ∙ ap (λ (y : ℕ). y * 2 ^ i + 0) (or-low b x) ∙ add-zero ((as_bit b + 2 * x) * 2 ^ i)
  where
    low : (c : Bool) → cond c (2 ^ i) 0 ≡ as_bit c * 2 ^ i + 0
    low true = omega arith
    low false = omega arith

    shuffle : (y z : ℕ) → y * (z * 2) ≡ 2 * y * z + 0
    shuffle y z = sym (mul_assoc y z 2) ∙ mul_comm (y * z) 2 ∙ sym (mul_assoc 2 y z) ∙ sym (add-zero (2 * y * z))

steps_bits : (v i : ℕ) (ss : List Step) (w pre : List ℕ) (at : ℕ) → at ≡ length pre → w ≡ pre ++ step_ranges i ss
    → or_all (rows (bit_at w v) 4 at (ranges_in ss)) ≡ admitted_bits ss (known v) * 2 ^ i
unfolding rows step_ranges or_all ranges_in sum_of admitted_bits
steps_bits v i [] w pre at ea ew = omega arith
steps_bits v i (s ∷ ss) w pre at ea ew =
    let own = concat_of (range_words (2 ^ i)) s.ranges in
    let e₂ : w ≡ (pre ++ own) ++ step_ranges (suc i) ss = ew ∙ sym (append_assoc pre own (step_ranges (suc i) ss)) in
    ap or_all (rows-add (bit_at w v) 4 at (length s.ranges) (ranges_in ss))
    ∙ or-append (rows (bit_at w v) 4 at (length s.ranges)) (rows (bit_at w v) 4 (at + 4 * length s.ranges) (ranges_in ss))
    ∙ ap₂ bit_or
    (ranges_bits (2 ^ i) v s.ranges w pre (step_ranges (suc i) ss) at ea ew)
    (steps_bits v (suc i) ss w (pre ++ own) (at + 4 * length s.ranges) (omega (arith, length-append pre own, length-ranges (2 ^ i) s.ranges)) e₂)
    ∙ or_shifted i (in_ranges s.ranges v) (admitted_bits ss (known v))

pub bits_admitted : (w : List ℕ) (v out n : ℕ) (ss : List Step) → n ≡ length w / 4 → out ≡ bits_from w v 0 n → w ≡ step_ranges 0 ss → out ≡ admitted_bits ss (known v)
bits_admitted w v out n ss en e ew =
    let long : length w ≡ 4 * ranges_in ss = ap length ew ∙ length-step_ranges 0 ss in
    let many : n ≡ ranges_in ss = omega arith in
    e ∙ ap or_all (rows_start (bit_at w v) 4 0 n) ∙ ap (λ (m : ℕ). or_all (rows (bit_at w v) 4 0 m)) many ∙ steps_bits v 0 ss w [] 0 refl ew ∙ omega arith

-- only a known reading lies in a step
pub none_admitted : (r : Reading) (ss : List Step) → ((f : ℕ → Bool) → is_in f r ≡ false) → 0 ≡ admitted_bits ss r
unfolding admitted_bits
none_admitted r [] h = refl
none_admitted r (s ∷ ss) h = ap₂ (λ (b : Bool) (x : ℕ). as_bit b + 2 * x) (sym (h (in_ranges s.ranges))) (none_admitted r ss h)
