-- How many different values ranges have, counted by span.
-- Assumes nothing.
use Rattle.std.specs.Prelude.{◌≡◌, ℕ, suc, ◌<◌, ◌≤◌, Bool, true, false, cond, ◌&&◌, List, [], ◌∷◌, nat_le, nat_lt}
use Rattle.model.specs.Table.{Range, span, pattern}
use Rattle.model.specs.Ranges.{no_value}
use Rattle.ranges.specs.declared.counts.Stretch.{Stretch}

-- not before x, not empty, and values only
abbrev pub in_order : ℕ → ℕ → ℕ → Bool
in_order x lo hi = (nat_le x lo && nat_le lo hi) && nat_lt hi no_value

-- spans in ascending order, without overlap, from x up
unfoldable pub rising : List Range → ℕ → Bool
rising [] x = true
rising (span lo hi ∷ rs) x = in_order x lo hi && rising rs (suc hi)
rising (pattern bits mask ∷ rs) x = false

-- the one of two that begins first
abbrev pub nearer_of : Stretch → Stretch → Stretch
nearer_of best other = cond (nat_lt other.first best.first) other best

-- where `next` gives the least value from a number up: the least from x up, and each number after it up to the last is a value
pub record FirstOf (next : ℕ → ℕ) (x : ℕ) (r : Stretch) : Type 0 where
  pub first : r.first ≡ next x
  pub row : (y : ℕ) → r.first ≤ y → y ≤ r.last → y < no_value → next y ≤ y
