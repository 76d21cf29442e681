use mathlib.Core.Path.{sym, ap}
use mathlib.Core.Bool.{Bool, cond}
use lib.ListN.{set}
use Rattle.meets.proofs.met.mark.Goals as goal

pub returns-then-on : goal.returns-then-on
returns-then-on c = let a = c.args in sym (ap (λ (b : Bool). cond b (set a.flags.now a.k 1) a.flags.now) c.if-on.true)

pub returns-else-on : goal.returns-else-on
returns-else-on c = let a = c.args in sym (ap (λ (b : Bool). cond b (set a.flags.now a.k 1) a.flags.now) c.if-on.false)
