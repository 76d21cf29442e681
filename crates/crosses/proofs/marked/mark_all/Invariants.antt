use mathlib.Core.Path.{◌≡◌}
use Prim.Native.Nat.{◌≤◌}
use lib.ListN.{length}
use Rattle.model.specs.Format.{table_of}
use Rattle.crosses.specs.Order.{Nth}
use Rattle.crosses.specs.Marked.{mark_start}
use Rattle.crosses.proofs.MarkLaws.{MarkedTo}
use Rattle.crosses.proofs.marked.mark_all.Given as goal

abbrev pub invariant-loop-c : goal.invariant-loop-c
invariant-loop-c l =
    (l.c ≤ l.n) × (l.n ≡ length (table_of l.t).crosses) × Nth l.t l.c l.p × (length l.marks ≡ length l.initial.marks) × (l.at ≡ mark_start (table_of l.t) l.c) × MarkedTo (table_of l.t) l.c l.marks
