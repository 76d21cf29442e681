-- The excluded values of a point (those that its ignore and illegal bins list) as spans. A span's ends are offsets from the type's lowest value.
-- Assumes nothing.
use Rattle.std.specs.Prelude.{ℕ, ◌+◌, ◌-◌, ◌≡◌, true, cond, List, eqb, length}
use Rattle.model.specs.Lists.{sum_of}
use Rattle.model.specs.Table.{Table, is_cover, excludes}
use Rattle.model.specs.Values.{lowest, in_type}
use Rattle.model.specs.Counters.{point_at, excluded_value}
use Rattle.model.specs.Ranges.{ranges_of}
use Rattle.spans.specs.Spans.{held_by, apart, free}

-- the spans are ascending, disjoint and not adjacent, and hold of the type exactly the excluded values
pub record SpansOf (t : Table) (p : ℕ) (ws : List ℕ) : Type 0 where
  pub gaps : apart ws ≡ true
  pub exact : (v : ℕ) → in_type (point_at t p) v ≡ true → held_by ws (v - lowest (point_at t p)) ≡ excluded_value t p v

-- the least number from v up that no span holds; `low` is the type's lowest value
abbrev pub free_value : List ℕ → ℕ → ℕ → ℕ
free_value ws low v = low + free ws (v - low)

-- how many ranges the value bins of a point list
unfoldable pub ranges_listed : Table → ℕ → ℕ
ranges_listed t p = sum_of (λ b. cond (eqb b.point p) (length b.ranges) 0) t.value_bins

-- of these, how many its cover bins list
unfoldable pub cover_listed : Table → ℕ → ℕ
cover_listed t p = length (ranges_of is_cover p t.value_bins)

-- and how many its ignore and illegal bins list
unfoldable pub excluded_listed : Table → ℕ → ℕ
excluded_listed t p = length (ranges_of excludes p t.value_bins)
