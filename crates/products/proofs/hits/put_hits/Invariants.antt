use mathlib.Core.Path.{◌≡◌}
use Prim.Native.Nat.{◌≤◌}
use lib.ListN.{length}
use Rattle.products.specs.Shapes.{sizes_of}
use Rattle.products.proofs.Gates.{Open}
use Rattle.products.proofs.hits.put_hits.Given as goal

abbrev pub invariant-loop-q : goal.invariant-loop-q
invariant-loop-q l = (l.q ≤ l.count) × (length l.stack ≡ length l.initial.stack) × Open l.t l.gate l.at (sizes_of l.s) l.n l.q l.stack
