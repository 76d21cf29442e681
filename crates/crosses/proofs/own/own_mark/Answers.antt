use mathlib.Core.Path.{sym, ap}
use mathlib.Core.Bool.{Bool, cond}
use Rattle.crosses.proofs.own.own_mark.Goals as goal

pub returns-then-hit-m : goal.returns-then-hit-m
returns-then-hit-m c = sym (ap (λ (x : Bool). cond x c.args.m 0) c.if-hit-m.true)

pub returns-else-hit-m : goal.returns-else-hit-m
returns-else-hit-m c = sym (ap (λ (x : Bool). cond x c.args.m 0) c.if-hit-m.false)
