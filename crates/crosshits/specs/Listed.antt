-- What the marks of listed products say. That of product x stands at element start + x.
-- Assumes nothing.
use Rattle.std.specs.Prelude.{ℕ, ◌+◌, List, [], ◌∷◌, ◌++◌, map, eqb, get_or}
use Rattle.model.specs.Lists.{or_all}
use Rattle.places.specs.Places.{place_if}
use Rattle.crosses.specs.Flags.{own_mark}

-- of those that no bin of the mask selects, or-ed
abbrev pub list_mark : ℕ → List ℕ → ℕ → ℕ → ℕ
list_mark mask a start x = own_mark mask 1 (get_or a (start + x) 0)

unfoldable pub list_marks : ℕ → List ℕ → ℕ → List ℕ → ℕ
list_marks mask a start xs = or_all (map (list_mark mask a start) xs)

-- the places of those that no bin selects; product 0 has place `first`
unfoldable pub own_places : List ℕ → ℕ → ℕ → List ℕ → List ℕ
own_places a start first [] = []
own_places a start first (x ∷ xs) = place_if (eqb (get_or a (start + x) 0) 0) (first + x) ++ own_places a start first xs
