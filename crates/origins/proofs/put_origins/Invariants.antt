use mathlib.Core.Path.{◌≡◌}
use Prim.Native.Nat.{◌≤◌}
use lib.ListN.{length}
use Rattle.model.specs.Format.{table_of}
use Rattle.arrays.specs.Flat.{origin}
use Rattle.origins.proofs.PointRows.{Filled}
use Rattle.origins.proofs.put_origins.Given as goal

abbrev pub invariant-loop-p : goal.invariant-loop-p
invariant-loop-p l = (l.p ≤ l.n) × (length l.origins ≡ length l.initial.origins) × Filled origin (table_of l.t) l.p l.origins
