use Prim.Native.Nat.{◌+◌, ◌≤◌}
use lib.ListN.{drop}
use Rattle.arrays.proofs.Written.{Written}
use Rattle.crosshits.specs.Listed.{own_places}
use Rattle.crosshits.proofs.marks.put_own.Given as goal

abbrev pub invariant-loop-y : goal.invariant-loop-y
invariant-loop-y l =
    (l.c ≤ l.initial.c + l.y-index) × Written l.initial.c (own_places l.plan l.start l.first l.list) l.initial.hits l.c l.hits (own_places l.plan l.start l.first (drop l.y-index l.list))
