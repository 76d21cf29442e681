-- A sequence as plain numbers: its shape, and in which of its steps a reading lies.
-- Assumes nothing.
use Rattle.std.specs.Prelude.{ℕ, ◌+◌, ◌*◌, ◌%◌, ◌≤◌, ◌≡◌, List, [], ◌∷◌, length}
use Rattle.model.specs.Lists.{as_bit}
use Rattle.model.specs.Table.{Step}
use Rattle.model.specs.Sampling.{Reading, in_step}

-- for each step, from the first on: how many readings in a row it takes at least, and at most
unfoldable pub shape_of : List Step → List ℕ
shape_of [] = []
shape_of (s ∷ ss) = s.least ∷ s.most ∷ shape_of ss

-- bit k: the reading lies in step k
unfoldable pub admitted_bits : List Step → Reading → ℕ
admitted_bits [] r = 0
admitted_bits (s ∷ ss) r = as_bit (in_step s r) + 2 * admitted_bits ss r

-- how many run words a shape has: its mosts together
unfoldable pub words_of : List ℕ → ℕ
words_of [] = 0
words_of (l ∷ []) = 0
words_of (l ∷ m ∷ shape) = m + words_of shape

-- at most 16 steps, two numbers each, and a run has room for the words
pub record Fits (shape : List ℕ) : Type 0 where
  pub few : length shape ≤ 32
  pub even : length shape % 2 ≡ 0
  pub short : words_of shape ≤ 32
