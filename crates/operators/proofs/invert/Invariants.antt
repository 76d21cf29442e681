use mathlib.Core.Path.{◌≡◌}
use Prim.Native.Nat.{◌≤◌}
use Rattle.operators.specs.Operators.{not_of}
use Rattle.operators.proofs.Rewriting.{Mapped}
use Rattle.operators.proofs.invert.Given as goal

abbrev pub invariant-loop-x : goal.invariant-loop-x
invariant-loop-x l = (l.x ≤ l.n) × Mapped (λ x v. v ≡ not_of l.initial.stack x) l.x l.initial.stack l.stack
