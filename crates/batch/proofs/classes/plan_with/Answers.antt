use native.Mathlib.Omega.{arith}
use Prim.Native.Nat.{ℕ}
use Rattle.std.proofs.lemmas.List.{length-replicate}
use Rattle.refusals.proofs.CallLaws.{known-accepted}
use Rattle.batch.proofs.classes.plan_with.Goals as goal

pub prepare-requires : goal.prepare-requires
prepare-requires g c =
    let p = c.requires in
    (known-accepted _ p.0.known, p.1, p.2, omega (arith, p.3.plan, length-replicate {A = ℕ} g.row.PLAN 0), omega (arith, p.3.lists, length-replicate {A = ℕ} g.row.LISTS 0))
