-- How much room the plan and the lists of an accepted table need, by its counts.
-- Assumes nothing.
use mathlib.Core.Path.{◌≡◌}
use mathlib.Core.Bool.{true}
use mathlib.Core.List.{List}
use Prim.Native.Nat.{ℕ, ◌+◌, ◌*◌, ◌≤◌}
use native.Mathlib.Omega.{arith}
use lib.ListN.{length, length-append}
use Rattle.model.specs.Table.{Table}
use Rattle.model.specs.Counters.{counters}
use Rattle.model.specs.Format.{accepted, table_of}
use Rattle.model.specs.Register.{point_total, counter_total}
use Rattle.arrays.specs.Flat.{kind_of, all_point_counters, all_cross_counters}
use Rattle.places.specs.Places.{of_kind, illegal_places}
use Rattle.places.proofs.PlaceLaws.{places-few}
use Rattle.crosses.proofs.MarkLaws.{marks_counters, marks_few}
use Rattle.lists.specs.Lists.{lists_need}

parts : (t : Table) → counter_total t ≡ length (all_point_counters t) + length (all_cross_counters t)
unfolding counters all_point_counters all_cross_counters
parts t = length-append (all_point_counters t) (all_cross_counters t)

pub illegals-most : (t : Table) → length (illegal_places t) ≤ counter_total t
unfolding illegal_places
illegals-most t = places-few (λ c. of_kind 2 (kind_of c)) 0 (counters t)

module _ (s : List ℕ) (ok : accepted s ≡ true) where
  pub lists_size : lists_need (table_of s) ≤ 98 + 514 * point_total (table_of s) + length (illegal_places (table_of s)) + counter_total (table_of s)
  lists_size = omega (arith, marks_counters (table_of s), parts (table_of s))

  pub lists_most : lists_need (table_of s) ≤ 98 + 514 * point_total (table_of s) + length (illegal_places (table_of s)) + 8192
  lists_most = omega (arith, marks_few s ok)
