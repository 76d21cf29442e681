-- From the cover bins of the points to their counters.
-- Assumes nothing.
use Rattle.std.specs.Prelude.{ℕ, zero, suc, ◌+◌, cond, List, [], ◌∷◌, eqb, get_or}
use Rattle.model.specs.Lists.{as_bit}

-- a counter's element: a cover bin's is x, a transition bin's 1, any other's 0
abbrev pub spread_one : ℕ → ℕ → ℕ
spread_one kind x = cond (eqb kind 0) x (as_bit (eqb kind 3))

-- where the next cover bin's element stands
abbrev pub next_at : ℕ → ℕ → ℕ
next_at kind at = cond (eqb kind 0) (at + 1) at

-- n counters from number i on; the elements of their cover bins stand from `at` on
unfoldable pub spread : List ℕ → List ℕ → ℕ → ℕ → ℕ → List ℕ
spread kinds xs i at zero = []
spread kinds xs i at (suc n) = spread_one (get_or kinds i 0) (get_or xs at 0) ∷ spread kinds xs (i + 1) (next_at (get_or kinds i 0) at) n
