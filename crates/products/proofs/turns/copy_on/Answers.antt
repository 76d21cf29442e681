use native.Mathlib.Omega.{arith}
use Rattle.products.proofs.Rounds.{copied-start, copied_turn, copied_says}
use Rattle.products.proofs.turns.copy_on.Goals as goal

pub loop-x-init : goal.loop-x-init
loop-x-init c = (omega arith, copied-start _ _)

pub loop-x-preserved : goal.loop-x-preserved
loop-x-preserved c =
    let l = c.loop-x in
    (omega arith, copied_turn _ l.x _ l.out l.invariant.1 (omega arith) (omega arith))

pub returns : goal.returns
returns c = copied_says _ _ _ _ c.loop-x.invariant.1 _ (omega arith)
