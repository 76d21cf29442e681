use native.Mathlib.Omega.{arith}
use Rattle.sampling.proofs.Joins.{largest-room}
use Rattle.refusals.proofs.CallLaws.{known-accepted}
use Rattle.batch.proofs.classes.take.Goals as goal

pub hits_with-requires-2 : goal.hits_with-requires-2
hits_with-requires-2 c =
    let p = c.requires in
    (p.0, p.1, omega (arith, (largest-room _ (known-accepted _ p.0.known)).1), omega arith)
