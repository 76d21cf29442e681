-- The flags of a point's transition bins, by the places of their records: bin i stands at b + 4 i, and element i of `lens` has the lengths at which it matches.
-- Assumes nothing.
use Rattle.std.specs.Prelude.{ℕ, zero, suc, ◌+◌, ◌*◌, Bool, not, ◌&&◌, cond, List, [], ◌∷◌, ◌++◌, eqb, get_or}
use Rattle.std.specs.Int.Bits.{bit_or}
use Rattle.model.specs.Lists.{as_bit}
use Rattle.model.specs.Table.{Kind, cover, ignore, illegal, default, excludes}
use Rattle.model.specs.Sampling.{guard_true}
use Rattle.model.specs.Format.{byte, kind_from, guard_from}

-- the lengths of the bin at `at` are taken away from the point's cover bins, with those taken before
abbrev pub lost_with : List ℕ → ℕ → ℕ → ℕ → ℕ → ℕ
lost_with s p at before x = cond (eqb (byte s at) p && excludes (kind_from (byte s (at + 1)))) (bit_or before x) before

-- by n bins from number i on
unfoldable pub lost_lengths : List ℕ → List ℕ → ℕ → ℕ → ℕ → ℕ → ℕ → ℕ
lost_lengths s lens p b i zero before = before
lost_lengths s lens p b i (suc n) before = lost_lengths s lens p b (i + 1) n (lost_with s p (b + 4 * i) before (get_or lens i 0))

-- a bin is hit where some length of it is not lost, an illegal bin where it has a length
abbrev pub flags_by : Kind → Bool → ℕ → ℕ → List ℕ
flags_by cover live lost x = as_bit (live && not (eqb (bit_or x lost) lost)) ∷ []
flags_by ignore live lost x = []
flags_by illegal live lost x = as_bit (live && not (eqb x 0)) ∷ []
flags_by default live lost x = []

-- the bin at `at`, if it is one of point p
unfoldable pub flags_of : List ℕ → List ℕ → ℕ → Bool → ℕ → ℕ → ℕ → List ℕ
flags_of s w p skip lost at x = cond (eqb (byte s at) p) (flags_by (kind_from (byte s (at + 1))) (guard_true w (guard_from (byte s (at + 2))) && not skip) lost x) []

-- n bins from number i on
unfoldable pub flags_from : List ℕ → List ℕ → List ℕ → ℕ → Bool → ℕ → ℕ → ℕ → ℕ → List ℕ
flags_from s w lens p skip lost b i zero = []
flags_from s w lens p skip lost b i (suc n) = flags_of s w p skip lost (b + 4 * i) (get_or lens i 0) ++ flags_from s w lens p skip lost b (i + 1) n

-- the point's flags among n bins. skip: its reading is skipped.
unfoldable pub transition_flags : List ℕ → List ℕ → List ℕ → ℕ → Bool → ℕ → ℕ → List ℕ
transition_flags s w lens p skip b n = flags_from s w lens p skip (lost_lengths s lens p b 0 n 0) b 0 n
