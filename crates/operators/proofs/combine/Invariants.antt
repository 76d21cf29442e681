use lib.ListN.{get_or}
use Prim.Native.Nat.{◌+◌, ◌≤◌}
use Rattle.operators.proofs.Rewriting.{Mapped}
use Rattle.operators.proofs.combine.Given as goal

abbrev pub invariant-loop-x : goal.invariant-loop-x
invariant-loop-x g l = goal.F-IsAlwaysCallable g l.f × (l.x ≤ l.n) × Mapped (λ x v. goal.F-post g l.fn.f (get_or l.initial.stack x 0) (get_or l.initial.stack (l.n + x) 0) v) l.x l.initial.stack l.stack
