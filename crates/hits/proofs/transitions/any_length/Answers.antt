use mathlib.Core.Path.{refl}
use native.Mathlib.Omega.{arith}
use Rattle.hits.proofs.Unmatched.{lengths_turn, lengths_end}
use Rattle.hits.proofs.transitions.any_length.Goals as goal

pub loop-x-init : goal.loop-x-init
loop-x-init c = (omega arith, refl)

pub loop-x-preserved : goal.loop-x-preserved
loop-x-preserved c =
    let l = c.loop-x in
    (omega arith, lengths_turn c.args.lens.now l.x-index l.some (omega arith) l.invariant.1)

pub returns : goal.returns
returns c =
    let l = c.loop-x in
    lengths_end c.args.lens.now l.x-index l.some (omega arith) l.invariant.1
