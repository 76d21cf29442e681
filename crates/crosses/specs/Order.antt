-- The crosses of a table in their order.
-- Assumes nothing.
use Rattle.std.specs.Prelude.{ℕ, ◌≡◌, List}
use Rattle.arrays.specs.Flat.{cross_place}
use Rattle.products.specs.declared.places.Place.{Place}

-- the place is that of cross number c
pub record Nth (s : List ℕ) (c : ℕ) (p : Place) : Type 0 where
  pub number : p.number ≡ c
  pub place : cross_place s c ≡ record { cross = p.cross; bins = p.bins; tokens = p.tokens }
