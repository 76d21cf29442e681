-- The products of a cross by number: in `tuples` the last part turns fastest, so the number's digits, to the sizes of the parts, say which bin each part is.
-- Assumes nothing.
use Rattle.std.specs.Prelude.{ℕ, ◌*◌, ◌/◌, ◌%◌, List, [], ◌∷◌, get_or}
use Rattle.model.specs.Counters.{CoverBin, no_cover_bin}

-- how many tuples parts of these sizes have
unfoldable pub many : List ℕ → ℕ
many [] = 1
many (n ∷ ns) = n * many ns

-- how often parts of these sizes have turned round before tuple i
unfoldable pub turns : List ℕ → ℕ → ℕ
turns [] i = i
turns (n ∷ ns) i = turns ns i / n

-- the digits of i
unfoldable pub digits : List ℕ → ℕ → List ℕ
digits [] i = []
digits (n ∷ ns) i = turns ns i % n ∷ digits ns i

-- the bins with these numbers, one of each part
unfoldable pub pick : List (List CoverBin) → List ℕ → List CoverBin
pick [] ds = []
pick (cs ∷ css) [] = []
pick (cs ∷ css) (d ∷ ds) = get_or cs d no_cover_bin ∷ pick css ds
