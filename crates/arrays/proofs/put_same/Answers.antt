use mathlib.Core.Path.{◌≡◌, refl, ◌∙◌}
use Prim.Native.Nat.{◌+◌, ◌-◌}
use native.Mathlib.Omega.{arith}
use lib.ListN.{length-set}
use Rattle.arrays.proofs.Written.{same_turn, same_end}
use Rattle.arrays.proofs.put_same.Goals as goal

pub loop-i-init : goal.loop-i-init
loop-i-init g c =
    let a = c.args in
    let e : (a.at + a.n) - a.at ≡ a.n = omega arith in
    (omega arith, refl, rw e)

pub loop-i-preserved : goal.loop-i-preserved
loop-i-preserved g c =
    let l = c.loop-i in
    let a = c.args in
    (omega arith, simp length-set l.invariant.1, same_turn (a.at + a.n) l.i a.v l.xs (omega arith) (omega arith) ∙ l.invariant.2)

pub returns : goal.returns
returns g c =
    let l = c.loop-i in
    let a = c.args in
    (refl, same_end (a.at + a.n) l.i a.v l.xs _ l.invariant.2 (omega arith))
