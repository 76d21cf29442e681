-- How many bins a cover bin stands for, and how many auto bins a point has.
-- Assumes nothing.
use Rattle.std.specs.Prelude.{ℕ, Bool, cond, List, length}
use Rattle.model.specs.Table.{Point, Form, single, per_value, fixed, Range}
use Rattle.model.specs.Ranges.{ascending}
use Rattle.model.specs.Counters.{auto_count}

-- a cover bin with these ranges, at a point whose lowest value is `low`; 257 if it stands for more
unfoldable pub cover_count : ℕ → Form → List Range → ℕ
cover_count low single rs = 1
cover_count low per_value rs = length (ascending 257 rs low)
cover_count low (fixed n) rs = n

-- the point's auto bins, if it has them
abbrev pub autos_of : Bool → Point → ℕ
autos_of has p = cond has (auto_count p) 0
