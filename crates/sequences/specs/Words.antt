-- Run words, step by step, as the code goes through them: for the contracts of inner functions.
-- proofs/Shapes.antt shows that this is the model's `next_steps`.
-- Assumes nothing.
use Rattle.std.specs.Prelude.{ℕ, ◌-◌, ◌/◌, ◌%◌, Bool, cond, List, [], ◌∷◌, ◌++◌, eqb, length, take, drop, replicate}
use Rattle.model.specs.Lists.{or_all}
use Rattle.model.specs.Sampling.{longer}

-- a step's next words: `enter` at the first, and each word one place on and one reading longer; all 0 if the reading is not in the step
unfoldable pub step_words : Bool → ℕ → List ℕ → List ℕ
step_words b enter [] = []
step_words b enter (w ∷ ws) = cond b enter 0 ∷ step_words b (longer w) ws

-- of a step's words, those of `least` or more readings together
abbrev pub complete_from : ℕ → List ℕ → ℕ
complete_from least ws = or_all (drop (least - 1) ws)

-- the next words of a shape's steps, where the lowest bit of `left` admits the first of them
unfoldable pub shape_words : List ℕ → ℕ → ℕ → List ℕ → List ℕ
shape_words [] left enter ws = []
shape_words (l ∷ []) left enter ws = []
shape_words (l ∷ m ∷ shape) left enter ws =
    step_words (eqb (left % 2) 1) enter (take m ws) ++ shape_words shape (left / 2) (longer (complete_from l (take m ws))) (drop m ws)

-- 32 words: those of xs, and 0 after them
abbrev pub padded : List ℕ → List ℕ
padded xs = xs ++ replicate (32 - length xs) 0
