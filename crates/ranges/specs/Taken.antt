-- Which ranges ignore and illegal bins take from the cover bins of their point.
-- Assumes nothing.
use Rattle.std.specs.Prelude.{ℕ, ◌+◌, Bool, false, cond, ◌&&◌, List, ◌==◌}
use Rattle.model.specs.Lists.{any}
use Rattle.model.specs.Table.{Range, ValueBin, excludes}
use Rattle.model.specs.Values.{in_range}
use Rattle.model.specs.Format.{byte, kind_from}
use Rattle.model.specs.Ranges.{ranges_of}
use Rattle.model.specs.Raw.{bins_at}

-- the range holds the value
abbrev pub holding : ℕ → Range → Bool
holding v r = in_range r v

-- the value bin whose record stands at b takes values from the cover bins of point p
abbrev pub taking : List ℕ → ℕ → ℕ → Bool
taking s b p = byte s b == p && excludes (kind_from (byte s (b + 1)))

-- the bin does, and one of its ranges passes the test
abbrev pub taken_by : (Range → Bool) → ℕ → ValueBin → Bool
taken_by f p b = cond (b.point == p && excludes b.kind) (any f b.ranges) false

-- the ranges that n value bins from b on, their ranges from r on, take from point p
abbrev pub excluded_at : List ℕ → ℕ → ℕ → ℕ → ℕ → List Range
excluded_at s b r n p = ranges_of excludes p (bins_at s b r n)
