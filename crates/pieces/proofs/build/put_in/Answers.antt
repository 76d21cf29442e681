use native.Mathlib.Omega.{arith}
use Prim.Native.Nat.{ℕ}
use Rattle.std.proofs.lemmas.List.{length-replicate}
use Rattle.pieces.proofs.build.put_in.Goals as goal

pub put_all-requires : goal.put_all-requires
put_all-requires g c =
    let q = c.requires in
    record { t_value = (q.0, q.1, q.2, q.4); t_in_bounds = (omega (arith, q.3, length-replicate {A = ℕ} g.row.N 0), omega arith) }

pub whole_as_slice-put_all : goal.whole_as_slice-put_all
whole_as_slice-put_all g c = let q = c.requires in omega arith

pub whole_as_slice-put_all-2 : goal.whole_as_slice-put_all-2
whole_as_slice-put_all-2 g c = let q = c.requires in omega arith
