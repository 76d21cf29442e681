use mathlib.Core.Path.{◌≡◌}
use Prim.Native.Nat.{◌≤◌}
use lib.ListN.{length}
use Rattle.model.specs.Format.{table_of}
use Rattle.model.specs.Register.{point_total}
use Rattle.lists.proofs.RowLaws.{RowsTo}
use Rattle.lists.proofs.rows.put_place_rows.Given as goal

abbrev pub invariant-loop-p : goal.invariant-loop-p
invariant-loop-p l = (l.p ≤ l.n) × (l.n ≡ point_total (table_of l.t)) × (length l.rows ≡ length l.initial.rows) × RowsTo (table_of l.t) l.p l.rows
