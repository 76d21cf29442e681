-- The plain bins of a point, its default bins and illegal bins, that a value hits, bin after bin.
-- Assumes nothing.
use Rattle.std.specs.Prelude.{ℕ, ◌+◌, Bool, true, false, not, ◌&&◌, cond, List, [], ◌∷◌, ◌++◌, eqb, get_or}
use Rattle.model.specs.Table.{Kind, cover, ignore, illegal, default, Range, ValueBin}
use Rattle.model.specs.Values.{in_ranges}
use Rattle.model.specs.Sampling.{guard_true}
use Rattle.places.specs.Places.{place_if}

abbrev pub plain_kind : Kind → Bool
plain_kind cover = false
plain_kind ignore = false
plain_kind illegal = true
plain_kind default = true

-- one of the point's
abbrev pub is_plain_bin : ℕ → ValueBin → Bool
is_plain_bin p u = eqb u.point p && plain_kind u.kind

abbrev pub plain_count : ℕ → ValueBin → ℕ
plain_count p u = cond (is_plain_bin p u) 1 0

-- an illegal bin has the values that it lists, a default bin those that no bin lists
abbrev pub plain_holds : Kind → List Range → ℕ → Bool → Bool
plain_holds cover rs v l = false
plain_holds ignore rs v l = false
plain_holds illegal rs v l = in_ranges rs v
plain_holds default rs v l = not l

-- the bin is one of the point's plain bins, and a sample with the value v hits it; l: a bin of the point lists v
unfoldable pub plain_hit : List ℕ → ℕ → ℕ → Bool → ValueBin → Bool
plain_hit w p v l u = is_plain_bin p u && (guard_true w u.guard && plain_holds u.kind u.ranges v l)

-- the places of those that are hit; the place of the first plain bin is element j of ps
unfoldable pub plain_hits : List ℕ → ℕ → ℕ → Bool → List ℕ → ℕ → List ValueBin → List ℕ
plain_hits w p v l ps j [] = []
plain_hits w p v l ps j (u ∷ us) = place_if (plain_hit w p v l u) (get_or ps j 0) ++ plain_hits w p v l ps (j + plain_count p u) us
