-- Whether a point has auto bins, by the places of its table.
-- Assumes nothing.
use Rattle.std.specs.Prelude.{ℕ, zero, suc, ◌+◌, ◌≤◌, ◌<◌, Bool, false, true, not, ◌&&◌, ◌||◌, List, leb, eqb}
use Rattle.model.specs.Format.{byte}

-- the record of a bin at `at` is one of the point's cover bins, or default bins if these count
abbrev pub is_own : List ℕ → ℕ → Bool → ℕ → Bool
is_own s p defaults at = eqb (byte s at) p && (eqb (byte s (at + 1)) 0 || (defaults && leb 3 (byte s (at + 1))))

-- one of n records of `size` bytes is
unfoldable pub some_own : List ℕ → ℕ → Bool → ℕ → ℕ → ℕ → Bool
some_own s p defaults size at zero = false
some_own s p defaults size at (suc n) = is_own s p defaults at || some_own s p defaults size (at + size) n

-- n value bins from a on, k transition bins from b on: the point has auto bins
abbrev pub has_auto_at : List ℕ → ℕ → ℕ → ℕ → ℕ → ℕ → Bool
has_auto_at s p a n b k = not (some_own s p true 8 a n) && not (some_own s p false 4 b k)

-- places and counts of a table that is not too long
pub record Near (point a r n b k : ℕ) : Type 0 where
  pub point_near : point < 1000000000
  pub bins_near : a < 1000000000
  pub ranges_near : r < 1000000000
  pub few_bins : n ≤ 512
  pub transitions_near : b < 1000000000
  pub few_transitions : k < 65536
