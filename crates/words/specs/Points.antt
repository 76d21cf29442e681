-- Records that name a point by their first byte.
-- Assumes nothing.
use Rattle.std.specs.Prelude.{ℕ, ◌+◌, ◌*◌, ◌<◌, List}
use Rattle.model.specs.Format.{byte}

-- each of n records of `size` bytes from `at` on names one of np points
abbrev pub PointsBelow : List ℕ → ℕ → ℕ → ℕ → ℕ → Type 0
PointsBelow s size at n np = (i : ℕ) → i < n → byte s (at + size * i) < np
