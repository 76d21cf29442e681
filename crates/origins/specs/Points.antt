-- The value bin that each cover bin of a point comes of, by number.
-- Assumes nothing.
use Rattle.std.specs.Prelude.{ℕ, ◌+◌, ◌-◌, ◌*◌, ◌/◌, ◌&&◌, cond, List, [], ◌∷◌, ◌++◌, eqb, replicate}
use Rattle.model.specs.Table.{ValueBin, is_cover}
use Rattle.model.specs.Values.{lowest}
use Rattle.model.specs.Format.{point_record}
use Rattle.model.specs.Raw.{bins_at}
use Rattle.values.specs.Counts.{cover_count, autos_of}
use Rattle.values.specs.Points.{has_auto_at}
use Rattle.layout.specs.declared.Layout.{Layout}
use Rattle.spans.specs.declared.collects.Bins.{Bins}

-- how many bins a value bin stands for, if it is a cover bin of point p, whose lowest value is `low`
unfoldable pub own_count : ℕ → ℕ → ValueBin → ℕ
own_count low p b = cond (eqb b.point p && is_cover b.kind) (cover_count low b.form b.ranges) 0

-- the number of its value bin for each of them: the value bins are numbered from i on
unfoldable pub origins_in : ℕ → ℕ → ℕ → List ValueBin → List ℕ
origins_in low p i [] = []
origins_in low p i (b ∷ bs) = replicate (own_count low p b) i ++ origins_in low p (i + 1) bs

-- ---- a point, by the places of its table

-- the number of the first value bin of `own`
abbrev pub first_of : Layout → Bins → ℕ
first_of l own = (own.bins - l.bins) / 8

-- the number of its value bin for each cover bin of point p, whose value bins are among those of `own`; 65,535 for an auto bin
unfoldable pub point_origins : List ℕ → Layout → Bins → ℕ → List ℕ
point_origins s l own p =
    let q = point_record s (l.points + 11 * p) in
    origins_in (lowest q) p (first_of l own) (bins_at s own.bins own.ranges own.count)
    ++ replicate (autos_of (has_auto_at s p own.bins own.count l.transitions l.transition_count) q) 65535
