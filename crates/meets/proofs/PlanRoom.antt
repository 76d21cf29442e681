-- How many words the plan of all points takes.
-- Assumes nothing.
use mathlib.Core.Path.{◌≡◌, refl}
use mathlib.Core.Bool.{true}
use mathlib.Core.List.{List, [], ◌∷◌}
use Prim.Native.Nat.{ℕ, zero, suc, ◌+◌, ◌*◌, ◌≤◌}
use native.Mathlib.Omega.{arith}
use lib.ListN.{length}
use Rattle.model.specs.Lists.{sum_of, up_from}
use Rattle.model.specs.Table.{Table}
use Rattle.model.specs.Format.{accepted, table_of}
use Rattle.model.specs.Raw.{record_count}
use Rattle.model.specs.Register.{point_total}
use Rattle.model.proofs.Lists.{length-up_from}
use Rattle.model.proofs.RawExact.{few_points}
use Rattle.arrays.specs.Flat.{covers}
use Rattle.spans.specs.Point.{ranges_listed}
use Rattle.spans.proofs.Point.{ranges_listed_lem, ranges_most}
use Rattle.meets.specs.Plan.{point_need, plan_need}
use Rattle.meets.proofs.PlanLaws.{few_covers}

sum_need : (t : Table) (ps : List ℕ) → sum_of (point_need t) ps ≡ 9 * sum_of (ranges_listed t) ps + 2 * sum_of (λ p. length (covers t p)) ps + 9 * length ps
unfolding sum_of
sum_need t [] = refl
sum_need t (p ∷ ps) = omega (arith, sum_need t ps)

module _ (s : List ℕ) (ok : accepted s ≡ true) where
  pub plan_fits : plan_need (table_of s) ≤ 9 * record_count s 2 + 2 * sum_of (λ p. length (covers (table_of s) p)) (up_from 0 (point_total (table_of s))) + 9 * point_total (table_of s)
  unfolding plan_need
  plan_fits = omega (arith, sum_need (table_of s) (up_from 0 (point_total (table_of s))), ranges_listed_lem s ok (point_total (table_of s)), length-up_from 0 (point_total (table_of s)))

  covers_most : (n i : ℕ) → i + n ≤ point_total (table_of s) → sum_of (λ p. length (covers (table_of s) p)) (up_from i n) ≤ 256 * n
  unfolding sum_of up_from
  covers_most zero i h = omega arith
  covers_most (suc n) i h = omega (arith, few_covers s ok i (omega arith), covers_most n (suc i) (omega arith))

  pub plan_need_lem : plan_need (table_of s) ≤ 17552
  plan_need_lem = omega (arith, plan_fits, ranges_most s ok, covers_most (point_total (table_of s)) 0 (omega arith), few_points s ok)
