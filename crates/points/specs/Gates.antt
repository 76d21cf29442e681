-- From the counters of the points to their cover bins.
-- Assumes nothing.
use Rattle.std.specs.Prelude.{ℕ, zero, suc, ◌+◌, ◌≡◌, Bool, cond, List, [], ◌∷◌, ◌++◌, map, eqb, length, get_or, take}
use Rattle.model.specs.Lists.{as_bit}
use Rattle.model.specs.Table.{Table}
use Rattle.model.specs.Counters.{CoverBin, Counter, value_bin}
use Rattle.arrays.specs.Flat.{kinds_of, all_point_counters, Tells}

-- the element x, where its kind is a cover bin's
abbrev pub pick_one : ℕ → ℕ → List ℕ
pick_one kind x = cond (eqb kind 0) (x ∷ []) []

-- n of them from number i on
unfoldable pub picked : List ℕ → List ℕ → ℕ → ℕ → List ℕ
picked kinds xs i zero = []
picked kinds xs i (suc n) = pick_one (get_or kinds i 0) (get_or xs i 0) ++ picked kinds xs (i + 1) n

-- the kinds are those of the points' counters
unfoldable pub Kinded : Table → List ℕ → Type 0
Kinded t kinds = take (length (all_point_counters t)) kinds ≡ kinds_of (all_point_counters t)

-- the flags are 1 at the points' counters of which g is true
unfoldable pub Flagged : (Counter → Bool) → Table → List ℕ → Type 0
Flagged g t flags = take (length (all_point_counters t)) flags ≡ map (λ c. as_bit (g c)) (all_point_counters t)

-- a test of counters, as one of cover bins
abbrev pub on_covers : (Counter → Bool) → CoverBin → Bool
on_covers g c = g (value_bin c)

-- whatever the flags tell of the counters, the gate tells of the cover bins
unfoldable pub Gathered : Table → List ℕ → List ℕ → Type 0
Gathered t flags gate = (g : Counter → Bool) → Flagged g t flags → Tells (on_covers g) t gate
