use mathlib.Core.Path.{◌≡◌}
use Prim.Native.Nat.{◌≤◌}
use Rattle.products.specs.Marks.{add_of}
use Rattle.operators.proofs.Rewriting.{Mapped}
use Rattle.products.proofs.marks.add_bit.Given as goal

abbrev pub invariant-loop-x : goal.invariant-loop-x
invariant-loop-x l = (l.x ≤ l.n) × Mapped (λ x v. v ≡ add_of l.initial.marks l.stack l.weight x) l.x l.initial.marks l.marks
