use mathlib.Core.Path.{sym, ap}
use mathlib.Core.Bool.{Bool, cond}
use Prim.Native.Nat.{◌+◌}
use native.Mathlib.Omega.{arith}
use borrow.Author.Tests.{le-leb, lt-leb}
use Rattle.meets.proofs.met.reach_of.Goals as goal

pub returns-then-from-ask : goal.returns-then-from-ask
returns-then-from-ask c =
    let a = c.args in
    (c.free_value-from.ensures.0, sym (ap (λ (x : Bool). cond x (a.ask.hi + 1) 0) (le-leb _ a.ask.hi (omega (arith, c.if-from-ask.true)))))

pub returns-else-from-ask : goal.returns-else-from-ask
returns-else-from-ask c =
    let a = c.args in
    (c.free_value-from.ensures.0, sym (ap (λ (x : Bool). cond x (a.ask.hi + 1) 0) (lt-leb _ a.ask.hi (omega (arith, c.if-from-ask.false)))))
