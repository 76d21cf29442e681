use Rattle.check_tokens.proofs.TokenLaws.{wants-on, wanted-small}
use native.Mathlib.Omega.{arith}
use Rattle.check_tokens.proofs.TokenLaws.{wants}
use Rattle.check_tokens.proofs.expressions.one_expression.Goals as goal

pub returns-then-lacks : goal.returns-then-lacks
returns-then-lacks c = search wants

pub loop-i-preserved : goal.loop-i-preserved
loop-i-preserved c = let h = wanted-small _ _ _ c.wanted_after-wanted.ensures in (search wants, search wants, omega arith, wants-on c.args.t.now c.args.n c.loop-i.i c.loop-i.at c.loop-i.wanted _ c.loop-i.invariant.3 _ _ _ _ c.byte-op.ensures c.byte-next.ensures c.loop-i-test.true c.lacks.ensures c.if-lacks.false c.wanted_after-wanted.ensures)

pub returns : goal.returns
returns c = search wants
