use Prim.Native.Nat.{◌≤◌}
use Rattle.products.proofs.Rounds.{Copied}
use Rattle.products.proofs.turns.copy_on.Given as goal

abbrev pub invariant-loop-x : goal.invariant-loop-x
invariant-loop-x l = (l.x ≤ l.m) × Copied l.k l.x l.initial.out l.out
