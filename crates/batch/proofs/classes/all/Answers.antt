use mathlib.Core.Path.{sym, ◌∙◌}
use native.Mathlib.Omega.{arith}
use borrow.Author.Tests.{eqb-true}
use Rattle.refusals.proofs.CallLaws.{known-accepted}
use Rattle.sampling.proofs.Joins.{gate-room, largest-room}
use Rattle.turns.proofs.TurnLaws.{took-none}
use Rattle.batch.proofs.classes.all.Goals as goal

pub returns-then-is_empty : goal.returns-then-is_empty
returns-then-is_empty c = took-none _ _ _ _ _ (eqb-true _ _ (sym c.is_empty.ensures ∙ c.if-is_empty.true))

pub kinds_with-requires-then-f-le4096 : goal.kinds_with-requires-then-f-le4096
kinds_with-requires-then-f-le4096 c =
    let p = c.requires in
    (p.0, (gate-room _ (known-accepted _ p.0.known), omega (arith, p.1.counters, c.if-f-le4096.true)), omega arith)

pub kinds_with-requires-2 : goal.kinds_with-requires-2
kinds_with-requires-2 c =
    let p = c.requires in
    (p.0, largest-room _ (known-accepted _ p.0.known), omega arith)
