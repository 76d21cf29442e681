use mathlib.Core.Path.{◌≡◌}
use Prim.Native.Nat.{◌-◌, ◌%◌, ◌≤◌, ◌<◌}
use lib.ListN.{length}
use Rattle.operators.specs.Operators.{Says}
use Rattle.products.specs.Bytes.{turn_of}
use Rattle.products.proofs.turns.go_round.Given as goal

abbrev pub invariant-loop-k : goal.invariant-loop-k
invariant-loop-k l = (1 ≤ l.k) × (l.k ≤ l.n) × (length l.out ≡ length l.initial.out) × (l.k < l.n → l.k % l.turn ≡ 0) × Says l.k (turn_of l.initial.out l.turn) l.out

abbrev pub decreases-loop-k : goal.decreases-loop-k
decreases-loop-k l = l.n - l.k
