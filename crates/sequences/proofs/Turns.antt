-- What a turn of each loop does, and its end: what is left to do, done to the present words, gives the whole.
-- Assumes nothing.
use mathlib.Core.Path.{◌≡◌, ap, ◌∙◌}
use mathlib.Core.Bool.{Bool, cond}
use mathlib.Core.List.{List, [], ◌∷◌}
use Prim.Native.Nat.{ℕ, ◌+◌, ◌-◌, ◌/◌, ◌%◌, ◌≤◌, ◌<◌}
use native.Mathlib.Omega.{arith}
use lib.Dec.{eqb}
use lib.Bits.{bit_or, or_zero_r}
use lib.ListN.{length, take, drop, get_or, set, drop_of_length-le}
use lib.Seq.{get_or-take, get_or-drop, drop-drop}
use Rattle.model.specs.Lists.{or_all}
use Rattle.model.specs.Sampling.{longer}
use Rattle.model.proofs.Lists.{head_tail, one_left, length_part}
use Rattle.model.proofs.RunBits.{or_assoc}
use Rattle.sequences.specs.Shapes.{words_of}
use Rattle.sequences.specs.Words.{step_words, complete_from, shape_words}
use Rattle.arrays.specs.Put.{put}
use Rattle.arrays.proofs.PutLaws.{put-nil, put-cons, put_next}
use Rattle.sequences.proofs.NextSteps.{length-step_words}

-- ---- complete

-- the word at j is taken in, and those after it are left
or_all-turn : (ws : List ℕ) (out j : ℕ) → j < length ws → bit_or (bit_or out (get_or ws j 0)) (or_all (drop (j + 1) ws)) ≡ bit_or out (or_all (drop j ws))
unfolding or_all
or_all-turn ws out j h = rw (head_tail ws j 0 h) (or_assoc out (get_or ws j 0) (or_all (drop (j + 1) ws)))

pub complete-turn : (ws : List ℕ) (at most out j : ℕ) → at + most ≤ length ws → j < most
    → bit_or (bit_or out (get_or ws (at + j) 0)) (or_all (drop (j + 1) (take most (drop at ws)))) ≡ bit_or out (or_all (drop j (take most (drop at ws))))
complete-turn ws at most out j h k =
    let n = length_part ws at most h in
    let e : get_or (take most (drop at ws)) j 0 ≡ get_or ws (at + j) 0 = get_or-take most (drop at ws) j 0 k ∙ get_or-drop at ws j 0 in
    rw (← e) (or_all-turn (take most (drop at ws)) out j (omega arith))

pub complete-end : (ws : List ℕ) (at most out j : ℕ) → at + most ≤ length ws → most ≤ j → bit_or out (or_all (drop j (take most (drop at ws)))) ≡ out
unfolding or_all
complete-end ws at most out j h k =
    let n = length_part ws at most h in
    let z : drop j (take most (drop at ws)) ≡ [] = drop_of_length-le (take most (drop at ws)) (let g : length (take most (drop at ws)) ≤ j = omega arith in g) in
    rw z (or_zero_r out)

-- ---- step_words

-- the step's words that are left: the first, and the rest
left_words : (old : List ℕ) (at most j : ℕ) → j < most → at + j < length old
    → take (most - j) (drop (at + j) old) ≡ get_or old (at + j) 0 ∷ take (most - (j + 1)) (drop (at + (j + 1)) old)
left_words old at most j h k =
    let e : at + (j + 1) ≡ (at + j) + 1 = omega arith in
    rw (e, one_left most j h, head_tail old (at + j) 0 k)

pub words_turn : (old words : List ℕ) (at most j next v : ℕ) (b : Bool) → j < most → at + j < length old → at + j < length words → v ≡ cond b next 0
    → put (at + (j + 1)) (step_words b (longer (get_or old (at + j) 0)) (take (most - (j + 1)) (drop (at + (j + 1)) old))) (set words (at + j) v)
    ≡ put (at + j) (step_words b next (take (most - j) (drop (at + j) old))) words
unfolding step_words
words_turn old words at most j next v b h k l ev =
    let e : at + (j + 1) ≡ (at + j) + 1 = omega arith in
    let rest = step_words b (longer (get_or old (at + j) 0)) (take (most - (j + 1)) (drop (at + (j + 1)) old)) in
    rw (left_words old at most j h k, ← ev)
    (ap (λ (n : ℕ). put n rest (set words (at + j) v)) e ∙ put-cons (at + j) v rest words l)

pub words_end : (old words : List ℕ) (at most j next : ℕ) (b : Bool) → most ≤ j
    → put (at + j) (step_words b next (take (most - j) (drop (at + j) old))) words ≡ words
unfolding step_words
words_end old words at most j next b h =
    let z : most - j ≡ 0 = omega arith in
    rw z (put-nil (at + j) words)

-- ---- next: a turn takes one step's two numbers

two-left : (shape : List ℕ) (s : ℕ) → s + 1 < length shape → drop s shape ≡ get_or shape s 0 ∷ get_or shape (s + 1) 0 ∷ drop (s + 2) shape
two-left shape s h =
    let e : (s + 1) + 1 ≡ s + 2 = omega arith in
    head_tail shape s 0 (omega arith) ∙ ap (get_or shape s 0 ∷◌) (head_tail shape (s + 1) 0 h ∙ ap (λ (n : ℕ). get_or shape (s + 1) 0 ∷ drop n shape) e)

pub mosts_turn : (shape : List ℕ) (s : ℕ) → s + 1 < length shape → words_of (drop s shape) ≡ get_or shape (s + 1) 0 + words_of (drop (s + 2) shape)
unfolding words_of
mosts_turn shape s h = rw (two-left shape s h)

pub shape_turn : (shape : List ℕ) (s at left enter enter' : ℕ) (old words words' : List ℕ)
    → s + 1 < length shape → at + get_or shape (s + 1) 0 ≤ length old → length words ≡ length old
    → words' ≡ put at (step_words (eqb (left % 2) 1) enter (take (get_or shape (s + 1) 0) (drop at old))) words
    → enter' ≡ longer (complete_from (get_or shape s 0) (take (get_or shape (s + 1) 0) (drop at old)))
    → put (at + get_or shape (s + 1) 0) (shape_words (drop (s + 2) shape) (left / 2) enter' (drop (at + get_or shape (s + 1) 0) old)) words'
    ≡ put at (shape_words (drop s shape) left enter (drop at old)) words
unfolding shape_words
shape_turn shape s at left enter enter' old words words' h ho hw e₁ e₂ =
    let m = get_or shape (s + 1) 0 in
    let xs = step_words (eqb (left % 2) 1) enter (take m (drop at old)) in
    let len : length xs ≡ m = length-step_words _ _ _ ∙ length_part old at m ho in
    rw (two-left shape s h, e₁, e₂, ← drop-drop m at old)
    (put_next at m xs _ words len (omega arith))

pub shape-end : (shape : List ℕ) (s at left enter : ℕ) (ws words : List ℕ) → length shape ≤ s → put at (shape_words (drop s shape) left enter ws) words ≡ words
unfolding shape_words
shape-end shape s at left enter ws words h =
    let z : drop s shape ≡ [] = drop_of_length-le shape h in
    rw z (put-nil at words)
