use native.Mathlib.Omega.{arith}
use Prim.Native.Nat.{ℕ}
use Rattle.std.proofs.lemmas.List.{length-replicate}
use Rattle.sampling.proofs.Joins.{labelled}
use Rattle.refusals.proofs.CallLaws.{known-accepted}
use Rattle.batch.proofs.classes.kinds_with.Goals as goal

pub put_kinds-x-requires : goal.put_kinds-x-requires
put_kinds-x-requires g c =
    let p = c.requires in
    let own = length-replicate {A = ℕ} g.row.KINDS 0 in
    (known-accepted _ p.0.known, (omega (arith, p.1.0, own), omega (arith, p.1.1, own)))

pub planned-requires : goal.planned-requires
planned-requires g c =
    let p = c.requires in
    let q = c.put_kinds-x in
    (p.0, q.ensures.0, labelled _ _ _ q.ensures.1 q.auto.kinds)
