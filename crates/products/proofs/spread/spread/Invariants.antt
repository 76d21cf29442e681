use mathlib.Core.Path.{◌≡◌}
use Prim.Native.Nat.{◌*◌, ◌≤◌}
use lib.ListN.{length}
use Rattle.operators.specs.Operators.{Says}
use Rattle.products.specs.Bytes.{spread_bit}
use Rattle.products.proofs.spread.spread.Given as goal

abbrev pub invariant-loop-d : goal.invariant-loop-d
invariant-loop-d l =
    (l.d ≤ l.size) × (length l.out ≡ length l.initial.out) × (l.at ≡ l.d * l.inner) × Says (l.d * l.inner) (spread_bit l.leaves l.row l.inner) l.out
