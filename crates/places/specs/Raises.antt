-- Counts that are raised at listed places.
-- Assumes nothing.
use Rattle.std.specs.Prelude.{ℕ, ◌+◌, ◌<◌, ◌≡◌, true, List, [], ◌∷◌, length, get_or, set}
use Rattle.model.proofs.Readers.{All}
use Rattle.places.specs.Places.{ascending}

-- one more at each place, counted from `at` on
unfoldable pub raise_each : ℕ → List ℕ → List ℕ → List ℕ
raise_each at [] w = w
raise_each at (x ∷ xs) w = raise_each at xs (set w (at + x) (get_or w (at + x) 0 + 1))

-- these counts are there, each listed once, and each can be raised
pub record Raisable (at : ℕ) (xs w : List ℕ) : Type 0 where
  pub order : ascending 0 xs ≡ true
  pub there : All (λ x. at + x < length w) xs
  pub room : All (λ x. get_or w (at + x) 0 < 4294967295) xs
