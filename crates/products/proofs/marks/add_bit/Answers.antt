use mathlib.Core.Path.{ap}
use Prim.Native.Nat.{ℕ, ◌+◌, ◌*◌}
use native.Mathlib.Omega.{arith}
use lib.ListN.{get_or}
use Rattle.products.specs.Marks.{Below, add_of}
use Rattle.operators.specs.Operators.{Says}
use Rattle.operators.proofs.Rewriting.{mapped-start, mapped_turn}
use Rattle.products.proofs.Adding.{bit-fits}
use Rattle.products.proofs.marks.add_bit.Goals as goal

pub loop-x-init : goal.loop-x-init
loop-x-init c = (omega arith, mapped-start _ _)

pub overflow_cast-marks : goal.overflow_cast-marks
unfolding Below
overflow_cast-marks c = omega (arith, c.requires.4 c.loop-x.x (omega arith))

pub overflow_mul-marks : goal.overflow_mul-marks
unfolding Below
overflow_mul-marks c =
    let l = c.loop-x in
    let a = c.args in
    let pre = c.requires in
    let same = l.invariant.1.left l.x (omega arith) in
    let fit = bit-fits a.weight (get_or a.stack.now l.x 0) (get_or l.marks l.x 0) (pre.4 l.x (omega arith)) (omega (arith, same, pre.3 l.x (omega arith))) pre.2 in
    omega (arith, fit.0)

pub overflow_add-marks : goal.overflow_add-marks
unfolding Below
overflow_add-marks c =
    let l = c.loop-x in
    let a = c.args in
    let pre = c.requires in
    let same = l.invariant.1.left l.x (omega arith) in
    let fit = bit-fits a.weight (get_or a.stack.now l.x 0) (get_or l.marks l.x 0) (pre.4 l.x (omega arith)) (omega (arith, same, pre.3 l.x (omega arith))) pre.2 in
    omega (arith, fit.1)

pub loop-x-preserved : goal.loop-x-preserved
unfolding add_of
loop-x-preserved c =
    let l = c.loop-x in
    let a = c.args in
    (omega arith, mapped_turn _ l.x _ l.marks l.invariant.1 _ (ap (λ (y : ℕ). y + a.weight * get_or a.stack.now l.x 0) (l.invariant.1.left l.x (omega arith))) (omega arith))

pub returns : goal.returns
unfolding Says
returns c x h = c.loop-x.invariant.1.done x (omega arith)
