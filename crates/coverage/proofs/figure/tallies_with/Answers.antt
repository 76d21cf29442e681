use native.Mathlib.Omega.{arith}
use Prim.Native.Nat.{ℕ}
use Rattle.std.proofs.lemmas.List.{length-replicate}
use Rattle.coverage.proofs.figure.tallies_with.Goals as goal

pub tallies_in-requires : goal.tallies_in-requires
tallies_in-requires g c =
    let p = c.requires in
    let n = length-replicate {A = ℕ} g.row.N 0 in
    record { t_value = (p.0, p.1); roomy = ((omega (arith, p.2.0, n), omega (arith, p.2.1, n)), (omega (arith, p.2.0, n), omega (arith, p.2.1, n))) }
