use native.Mathlib.Omega.{arith}
use Rattle.spans.proofs.JoinLaws.{settles}
use Rattle.spans.proofs.joins.settle.Goals as goal

pub returns : goal.returns
returns c =
    let s = c.put_in_order in
    settles c.args.a.now s.new.a s.new.room _ _ s.ensures c.requires.1 s.auto.a (omega (arith, c.requires.0, s.auto.a, s.auto.room)) c.join.ensures.0 c.join.ensures.1
