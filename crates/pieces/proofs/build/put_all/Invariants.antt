use mathlib.Core.Path.{◌≡◌}
use Prim.Native.Nat.{◌+◌, ◌-◌, ◌*◌, ◌≤◌}
use lib.ListN.{length, get_or}
use Rattle.model.specs.Format.{table_of}
use Rattle.model.specs.Register.{point_total}
use Rattle.meets.specs.Plan.{plan_need}
use Rattle.pieces.proofs.PlanTurns.{need_from, PlannedTo}
use Rattle.pieces.proofs.build.put_all.Given as goal

abbrev pub invariant-loop-p : goal.invariant-loop-p
invariant-loop-p l =
    (l.p ≤ l.n) × (l.n ≡ point_total (table_of l.t)) × (length l.plan ≡ length l.initial.plan) × (length l.bounds ≡ length l.initial.bounds) × (length l.room ≡ length l.initial.room) × (length l.sorted ≡ length l.initial.sorted)
    × (l.at + need_from (table_of l.t) l.p (l.n - l.p) ≤ plan_need (table_of l.t)) × (get_or l.bounds (3 * l.p) 0 ≡ l.at) × PlannedTo (table_of l.t) l.p l.plan l.bounds l.at
