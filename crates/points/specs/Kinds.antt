-- What each counter of a point is, as a number, by the places of its bins.
-- Assumes nothing.
use Rattle.std.specs.Prelude.{ℕ, zero, suc, ◌+◌, ◌*◌, ◌≡◌, true, cond, List, [], ◌∷◌, ◌++◌, eqb, replicate}
use Rattle.model.specs.Table.{Kind, cover, ignore, illegal, default, ValueBin}
use Rattle.model.specs.Format.{byte, kind_from, accepted}
use Rattle.layout.specs.declared.Layout.{Layout}
use Rattle.layout.specs.Places.{layout_of}
use Rattle.values.specs.Counts.{cover_count}

-- the counters of a value bin: a 0 for each bin that a cover bin stands for
abbrev pub kinds_by : ℕ → Kind → ValueBin → List ℕ
kinds_by low cover u = replicate (cover_count low u.form u.ranges) 0
kinds_by low ignore u = []
kinds_by low illegal u = 2 ∷ []
kinds_by low default u = 1 ∷ []

-- if it is one of point p
unfoldable pub bin_kinds : ℕ → ℕ → ValueBin → List ℕ
bin_kinds low p u = cond (eqb u.point p) (kinds_by low u.kind u) []

unfoldable pub kinds_in : ℕ → ℕ → List ValueBin → List ℕ
kinds_in low p [] = []
kinds_in low p (u ∷ us) = bin_kinds low p u ++ kinds_in low p us

-- the counters of a transition bin
abbrev pub transition_kind : Kind → List ℕ
transition_kind cover = 3 ∷ []
transition_kind ignore = []
transition_kind illegal = 4 ∷ []
transition_kind default = []

unfoldable pub transition_kinds : List ℕ → ℕ → ℕ → List ℕ
transition_kinds s p at = cond (eqb (byte s at) p) (transition_kind (kind_from (byte s (at + 1)))) []

-- n bins from number i on; bin i stands at b + 4 i
unfoldable pub transition_kinds_from : List ℕ → ℕ → ℕ → ℕ → ℕ → List ℕ
transition_kinds_from s p b i zero = []
transition_kinds_from s p b i (suc n) = transition_kinds s p (b + 4 * i) ++ transition_kinds_from s p b (i + 1) n

-- the places of an accepted table
pub record Placed (s : List ℕ) (l : Layout) : Type 0 where
  pub good : accepted s ≡ true
  pub placed : l ≡ layout_of s
