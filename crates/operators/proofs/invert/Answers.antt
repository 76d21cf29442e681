use mathlib.Core.Path.{ap}
use Prim.Native.Nat.{ℕ}
use native.Mathlib.Omega.{arith}
use lib.Bits.{bit_xor}
use Rattle.operators.specs.Operators.{Says, not_of}
use Rattle.operators.proofs.Rewriting.{mapped-start, mapped_turn}
use Rattle.operators.proofs.invert.Goals as goal

pub loop-x-init : goal.loop-x-init
loop-x-init c = (omega arith, mapped-start _ _)

pub loop-x-preserved : goal.loop-x-preserved
unfolding not_of
loop-x-preserved c =
    let l = c.loop-x in
    (omega arith, mapped_turn _ l.x _ l.stack l.invariant.1 _ (ap (λ (y : ℕ). bit_xor y 1) (l.invariant.1.left l.x (omega arith))) (omega arith))

pub returns : goal.returns
unfolding Says
returns c x h = c.loop-x.invariant.1.done x (omega arith)
