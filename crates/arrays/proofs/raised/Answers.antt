-- `arrays::raised` meets its contract. Assumes nothing.
use native.Mathlib.Omega.{arith}
use Rattle.arrays.proofs.raised.Goals as goal

pub returns-then-hit : goal.returns-then-hit
returns-then-hit c = rw c.if-hit.true (omega arith)

pub returns-else-hit : goal.returns-else-hit
returns-else-hit c = rw c.if-hit.false (omega arith)
