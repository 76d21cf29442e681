use mathlib.Core.Path.{◌≡◌}
use Prim.Native.Nat.{◌≤◌}
use lib.ListN.{length}
use Rattle.model.specs.Format.{table_of}
use Rattle.products.specs.Tokens.{RowsTold}
use Rattle.products.proofs.leaves.put_rows.Given as goal

abbrev pub invariant-loop-j : goal.invariant-loop-j
invariant-loop-j l = (l.j ≤ l.k.count) × (length l.leaves ≡ length l.initial.leaves) × RowsTold (table_of l.plan.table.now) l.plan.table.now l.k.cross l.k.at l.j l.leaves
