-- The words that the code makes of a shape and of the admitted steps are those that the model makes of the steps.
-- Assumes nothing.
use mathlib.Core.Path.{◌≡◌, refl, ap, ap₂, sym, ◌∙◌}
use mathlib.Core.Bool.{Bool, true, false, cond}
use mathlib.Core.List.{List, [], ◌∷◌, ◌++◌, map}
use Prim.Native.Nat.{ℕ, zero, suc, ◌+◌, ◌*◌, ◌-◌, ◌/◌, ◌%◌, ◌≤◌, ◌<◌}
use native.Mathlib.Omega.{arith}
use lib.Dec.{eqb}
use lib.ListN.{length, take, drop, get_or, replicate, length-take, length-drop, replicate-append-replicate}
use lib.Seq.{drop-drop}
use Rattle.model.specs.Lists.{as_bit, sum_of}
use Rattle.model.specs.Table.{Step}
use Rattle.model.specs.Sampling.{Reading, in_step, run_length, longer, complete, next_steps, matched_lengths}
use Rattle.model.proofs.Lists.{drop-replicate}
use Rattle.sequences.specs.Shapes.{shape_of, admitted_bits, words_of, Fits}
use Rattle.sequences.specs.Words.{step_words, complete_from, shape_words}
use Rattle.arrays.specs.Put.{put}
use Rattle.arrays.proofs.PutLaws.{put-zero}
use Rattle.sequences.proofs.NextSteps.{step_words_lem, length-next_steps, next_steps-own}

-- ---- shapes

pub words-shape : (ss : List Step) → words_of (shape_of ss) ≡ run_length ss
unfolding words_of shape_of sum_of
words-shape [] = refl
words-shape (s ∷ ss) = ap (s.most +◌) (words-shape ss)

pub words_length : (shape : List ℕ) (ss : List Step) (n : ℕ) → shape ≡ shape_of ss → n ≡ words_of shape → n ≡ run_length ss
words_length shape ss n e h = h ∙ ap words_of e ∙ words-shape ss

pub length-shape : (ss : List Step) → length (shape_of ss) ≡ 2 * length ss
unfolding shape_of
length-shape [] = refl
length-shape (s ∷ ss) = omega (arith, length-shape ss)

pub fits-shape : (ss : List Step) → length ss ≤ 16 → run_length ss ≤ 32 → Fits (shape_of ss)
fits-shape ss h k =
    let e = length-shape ss in
    let w = words-shape ss in
    record { few = omega arith; even = omega arith; short = omega arith }

-- ---- the admitted steps, from the lowest bit on

first_bit : (b : Bool) (x : ℕ) → eqb ((as_bit b + 2 * x) % 2) 1 ≡ b
first_bit true x = let e : (1 + 2 * x) % 2 ≡ 1 = omega arith in ap (λ (n : ℕ). eqb n 1) e
first_bit false x = let e : (0 + 2 * x) % 2 ≡ 0 = omega arith in ap (λ (n : ℕ). eqb n 1) e

other_bits : (b : Bool) (x : ℕ) → (as_bit b + 2 * x) / 2 ≡ x
other_bits true x = omega arith
other_bits false x = omega arith

shape-next : (ss : List Step) (enter : ℕ) (ws : List ℕ) (r : Reading) → run_length ss ≤ length ws
    → shape_words (shape_of ss) (admitted_bits ss r) enter ws ≡ next_steps ss ws enter r
unfolding shape_words shape_of admitted_bits next_steps sum_of
shape-next [] enter ws r h = refl
shape-next (s ∷ ss) enter ws r h =
    let m = s.most in
    let enter' = longer (complete s ws) in
    let k : run_length ss ≤ length (drop m ws) = simp length-drop (omega arith) in
    ap₂ ◌++◌
    (ap (λ (b : Bool). step_words b enter (take m ws)) (first_bit (in_step s r) (admitted_bits ss r)) ∙ step_words_lem (in_step s r) enter m ws (omega arith))
    (ap (λ (n : ℕ). shape_words (shape_of ss) n enter' (drop m ws)) (other_bits (in_step s r) (admitted_bits ss r)) ∙ shape-next ss enter' (drop m ws) r k)

-- the whole run
pub run-shape : (shape : List ℕ) (admitted : ℕ) (ss : List Step) (r : Reading) (ws : List ℕ) → Fits shape → length ws ≡ 32
    → shape ≡ shape_of ss → admitted ≡ admitted_bits ss r
    → put 0 (shape_words shape admitted 1 ws) (replicate 32 0) ≡ next_steps ss (take (run_length ss) ws) 1 r ++ replicate (32 - run_length ss) 0
run-shape shape admitted ss r ws f e es ea =
    let k : run_length ss ≤ length ws = omega (arith, f.short, ap words_of es, words-shape ss) in
    let k' : run_length ss ≤ length (take (run_length ss) ws) = simp length-take (omega arith) in
    let xs = next_steps ss (take (run_length ss) ws) 1 r in
    ap (λ (l : List ℕ). put 0 l (replicate 32 0)) (ap₂ (λ (l : List ℕ) (n : ℕ). shape_words l n 1 ws) es ea ∙ shape-next ss 1 ws r k ∙ next_steps-own ss ws 1 r k)
    ∙ put-zero xs (replicate 32 0)
    ∙ ap (λ (l : List ℕ). xs ++ l) (drop-replicate (length xs) 32 0 ∙ ap (λ (n : ℕ). replicate (32 - n) 0) (length-next_steps ss (take (run_length ss) ws) 1 r k'))

-- ---- a reading that lies in no step

not_in : (b : Bool) (x : ℕ) → as_bit b + 2 * x ≡ 0 → (b ≡ false) × (x ≡ 0)
not_in true x h = absurd (omega arith)
not_in false x h = (refl, omega arith)

next-none : (ss : List Step) (ws : List ℕ) (enter : ℕ) (r : Reading) → admitted_bits ss r ≡ 0 → next_steps ss ws enter r ≡ replicate (run_length ss) 0
unfolding admitted_bits next_steps sum_of
next-none [] ws enter r h = refl
next-none (s ∷ ss) ws enter r h =
    let n = not_in (in_step s r) (admitted_bits ss r) h in
    let m = s.most in
    ap₂ ◌++◌
    (ap (λ (b : Bool). cond b (take m (enter ∷ map longer ws)) (replicate m 0)) n.0)
    (next-none ss (drop m ws) (longer (complete s ws)) r n.1)
    ∙ replicate-append-replicate m (run_length ss) 0

pub none_stored : (ss : List Step) (r : Reading) (admitted : ℕ) (ws out : List ℕ) → length ws ≡ run_length ss → admitted ≡ admitted_bits ss r → admitted ≡ 0
    → out ≡ replicate (length ws) 0 → out ≡ next_steps ss ws 1 r
none_stored ss r admitted ws out n d z e = e ∙ ap (λ (k : ℕ). replicate k 0) n ∙ sym (next-none ss ws 1 r (sym d ∙ z))

-- ---- the last step

last-most-le : (shape : List ℕ) (n : ℕ) → length shape ≡ suc (suc n) → n % 2 ≡ 0 → get_or shape (suc n) 0 ≤ words_of shape
unfolding words_of
last-most-le [] n e h = absurd (omega arith)
last-most-le (l ∷ []) n e h = absurd (omega arith)
last-most-le (l ∷ m ∷ shape) zero e h = omega arith
last-most-le (l ∷ m ∷ shape) (suc zero) e h = absurd (let z : ◌≡◌ {A = ℕ} 1 0 = h in omega arith)
last-most-le (l ∷ m ∷ shape) (suc (suc n)) e h =
    let e' : length shape ≡ suc (suc n) = omega arith in
    let h' : n % 2 ≡ 0 = omega arith in
    omega (arith, last-most-le shape n e' h')

pub last_within : (shape : List ℕ) → Fits shape → 0 < length shape → get_or shape (length shape - 1) 0 ≤ words_of shape
last_within shape f h =
    let n = length shape - 2 in
    let v = f.even in
    let e : suc n ≡ length shape - 1 = omega arith in
    rw (← e) (last-most-le shape n (omega arith) (omega arith))

-- what the words of the last step say, which are the last words
last_words : ℕ → ℕ → List ℕ → ℕ
last_words l m ws = complete_from l (take m (drop (length ws - m) ws))

matched-end : (s : Step) (ss : List Step) (ws : List ℕ) → length ws ≡ run_length (s ∷ ss)
    → matched_lengths (s ∷ ss) ws ≡ last_words (get_or (shape_of (s ∷ ss)) (length (shape_of ss)) 0) (get_or (shape_of (s ∷ ss)) (suc (length (shape_of ss))) 0) ws
unfolding matched_lengths sum_of shape_of last_words
matched-end s [] ws h =
    let e : length ws - s.most ≡ 0 = omega arith in
    rw e
matched-end s (s' ∷ ss) ws h =
    let rest = drop s.most ws in
    let m = get_or (shape_of (s' ∷ ss)) (suc (length (shape_of ss))) 0 in
    let l = get_or (shape_of (s' ∷ ss)) (length (shape_of ss)) 0 in
    let n : length rest ≡ run_length (s' ∷ ss) = simp length-drop (omega arith) in
    let n' : length rest ≡ length ws - s.most = length-drop s.most ws in
    let v : length (shape_of ss) % 2 ≡ 0 = omega (arith, length-shape ss) in
    let b : m ≤ words_of (shape_of (s' ∷ ss)) = last-most-le (shape_of (s' ∷ ss)) (length (shape_of ss)) refl v in
    let t : words_of (shape_of (s' ∷ ss)) ≡ run_length (s' ∷ ss) = words-shape (s' ∷ ss) in
    let e : s.most + (length rest - m) ≡ length ws - m = omega arith in
    matched-end s' ss rest n
    ∙ ap (λ (x : List ℕ). complete_from l (take m x)) (drop-drop (length rest - m) s.most ws ∙ ap (λ (x : ℕ). drop x ws) e)

pub matched-shape : (shape : List ℕ) (ss : List Step) (ws : List ℕ) → shape ≡ shape_of ss → 0 < length shape → length ws ≡ words_of shape
    → matched_lengths ss ws ≡ complete_from (get_or shape (length shape - 2) 0) (take (get_or shape (length shape - 1) 0) (drop (length ws - get_or shape (length shape - 1) 0) ws))
unfolding shape_of last_words
matched-shape shape [] ws e n h = let z : 0 < length {A = ℕ} [] = rw e at n in absurd (omega arith)
matched-shape shape (s ∷ ss) ws e n h =
    let len = ap length e in
    let i : length (shape_of ss) ≡ length shape - 2 = omega arith in
    let j : suc (length (shape_of ss)) ≡ length shape - 1 = omega arith in
    let w : length ws ≡ run_length (s ∷ ss) = words_length shape (s ∷ ss) (length ws) e h in
    matched-end s ss ws w
    ∙ ap₂ (λ (x y : ℕ). last_words x y ws) (ap₂ (λ (l : List ℕ) (k : ℕ). get_or l k 0) (sym e) i) (ap₂ (λ (l : List ℕ) (k : ℕ). get_or l k 0) (sym e) j)

pub matched-empty : (shape : List ℕ) (ss : List Step) (ws : List ℕ) → shape ≡ shape_of ss → length shape ≡ 0 → matched_lengths ss ws ≡ 0
unfolding matched_lengths shape_of
matched-empty shape [] ws e n = refl
matched-empty shape (s ∷ ss) ws e n = let z : ◌≡◌ {A = ℕ} 0 (suc (suc (length (shape_of ss)))) = sym n ∙ ap length e in absurd (omega arith)
