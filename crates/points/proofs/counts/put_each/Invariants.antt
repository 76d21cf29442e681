use Prim.Native.Nat.{◌-◌, ◌≤◌}
use Rattle.model.specs.Format.{table_of}
use Rattle.model.specs.Register.{point_total}
use Rattle.arrays.specs.Flat.{cover_counts}
use Rattle.arrays.proofs.Written.{Written}
use Rattle.points.proofs.CountLaws.{counts_from}
use Rattle.points.proofs.counts.put_each.Given as goal

abbrev pub invariant-loop-p : goal.invariant-loop-p
invariant-loop-p l = (l.p ≤ l.n) × Written 0 (cover_counts (table_of l.t)) l.initial.counts l.p l.counts (counts_from (table_of l.t) l.p (point_total (table_of l.t) - l.p))
