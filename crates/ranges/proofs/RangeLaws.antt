-- A range's tests, by its fields; the lowest value of a point's record.
-- Assumes nothing.
use Rattle.std.proofs.Common.{◌≡◌, ℕ, ◌+◌, ◌-◌, ◌≤◌, Bool, eqb, List, refl, ◌∙◌, ap₂, arith, pow_mono}
use Rattle.model.specs.Table.{Point}
use Rattle.model.specs.Values.{lowest}
use Rattle.model.specs.Format.{byte, value_tests, pattern_tests, range_rules, read_range, point_record}
use Rattle.ranges.specs.Types.{typed, power_of, lowest_of}

-- a point's type is its width and its sign
pub range-typed : (s : List ℕ) (p : Point) (patterns : Bool) → read_range s p patterns ≡ read_range s (typed p.width p.signed) patterns
unfolding read_range range_rules value_tests pattern_tests
range-typed s p patterns = refl

pub power_half : (width : ℕ) → width ≤ 32 → power_of (width - 1) ≤ 2147483648
unfolding power_of
power_half width h = pow_mono {j = 31} (omega arith)

pub low_typed : (s : List ℕ) (point width : ℕ) (signed : Bool) (low : ℕ) → width ≡ byte s point → signed ≡ eqb (byte s (point + 1)) 1 → low ≡ lowest_of width signed → low ≡ lowest (point_record s point)
unfolding lowest_of power_of
low_typed s point width signed low ew es el = el ∙ ap₂ lowest_of ew es
