use mathlib.Core.Path.{◌≡◌}
use Prim.Native.Nat.{◌≤◌}
use lib.ListN.{length}
use Rattle.model.specs.Format.{table_of}
use Rattle.model.specs.Register.{point_total}
use Rattle.found.proofs.AllLaws.{FoundTo}
use Rattle.found.proofs.all.find_all.Given as goal

abbrev pub invariant-loop-p : goal.invariant-loop-p
invariant-loop-p l =
    (l.p ≤ l.n) × (l.n ≡ point_total (table_of l.t)) × (length l.found ≡ length l.initial.found) × FoundTo (table_of l.t) l.sample l.p l.found
