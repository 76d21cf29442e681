-- The room that what is worked out of a table needs.
-- Assumes nothing.
use mathlib.Core.Path.{◌≡◌, refl}
use mathlib.Core.Bool.{true, ◌&&◌}
use mathlib.Core.List.{List}
use Prim.Native.Nat.{ℕ, ◌+◌, ◌≤◌}
use native.Mathlib.Omega.{arith}
use lib.Dec.{leb}
use lib.ListN.{length}
use borrow.Author.Tests.{leb-true}
use Rattle.model.proofs.Booleans.{and_left, and_right}
use Rattle.model.specs.Format.{accepted, table_of}
use Rattle.model.proofs.RawExact.{few_points}
use Rattle.layout.specs.Places.{layout_of}
use Rattle.lists.proofs.SizeLaws.{illegals-most, lists_size, lists_most}
use Rattle.runs.specs.Rows.{sequence_rows}
use Rattle.runs.proofs.RowSizes.{rows_few, rows-counted}
use Rattle.meets.specs.Plan.{plan_need}
use Rattle.meets.proofs.PlanRoom.{plan_need_lem}
use Rattle.sampling.specs.declared.Index.{Index}
use Rattle.sampling.specs.Index.{Indexed}
use Rattle.sampling.proofs.Joins.{plan-within, both-within}
use Rattle.samples.proofs.ReportLaws.{illegal-many}
use Rattle.places.specs.Places.{illegal_places}
use Rattle.batch.specs.Sizes.{Sized, room_for}
use Rattle.batch.proofs.Illegals.{few-illegals}

module _ (s : List ℕ) (ok : accepted s ≡ true) where
  -- the places of the illegal counters are few
  listed_few : length (illegal_places (table_of s)) ≤ 704
  listed_few = omega (arith, illegal-many (table_of s), few-illegals s ok)

  pub largest_fits : Sized (table_of s) 20432 17218
  largest_fits = record { plan = omega (arith, plan_need_lem s ok, rows_few s ok); lists = omega (arith, lists_most s ok, few_points s ok, listed_few) }

  module _ (x : Index) (own : Indexed (table_of s) x) where
    pub enough : length (sequence_rows (table_of s)) + plan_need (table_of s) ≤ room_for (layout_of s) x
    unfolding layout_of
    enough = omega (arith, plan-within s ok (layout_of s).range_count refl x own, rows-counted s ok)

    module _ (need : ℕ) (is : need ≡ room_for (layout_of s) x) where
      pub small-fits : ((leb x.points 4 && leb x.counters 512) && leb need 768) ≡ true → Sized (table_of s) 768 3178
      small-fits h =
          let one = and_left (leb x.points 4 && leb x.counters 512) (leb need 768) h in
          let two = both-within x.points 4 x.counters 512 one in
          let fits = leb-true need 768 (and_right (leb x.points 4 && leb x.counters 512) (leb need 768) h) in
          record { plan = omega (arith, enough, is); lists = omega (arith, lists_size s ok, illegals-most (table_of s), own.points, own.counters, two.0, two.1) }

      pub medium-fits : (leb x.counters 2048 && leb need 4608) ≡ true → Sized (table_of s) 4608 11074
      medium-fits h =
          let two = both-within x.counters 2048 need 4608 h in
          record { plan = omega (arith, enough, is, two.1); lists = omega (arith, lists_size s ok, few_points s ok, listed_few, own.counters, two.0) }
