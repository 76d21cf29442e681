use mathlib.Core.Path.{◌≡◌}
use Prim.Native.Nat.{◌≤◌}
use lib.ListN.{length}
use Rattle.model.specs.Format.{table_of}
use Rattle.meets.proofs.PlanLaws.{Filled}
use Rattle.meets.proofs.plan.put_has.Given as goal

abbrev pub invariant-loop-p : goal.invariant-loop-p
invariant-loop-p l =
    (l.p ≤ l.n) × (length l.out ≡ length l.initial.out) × Filled (table_of l.t) l.p l.out
