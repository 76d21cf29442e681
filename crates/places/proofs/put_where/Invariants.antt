use Prim.Native.Nat.{◌+◌}
use lib.ListN.{drop}
use Rattle.arrays.proofs.Written.{Written}
use Rattle.places.specs.Places.{places_from}
use Rattle.places.proofs.put_where.Given as goal

abbrev pub invariant-loop-i : goal.invariant-loop-i
invariant-loop-i g l = goal.F-IsAlwaysCallable g l.f × Written 0 (places_from g.g l.base l.xs) l.initial.out l.c l.out (places_from g.g (l.base + l.i) (drop l.i l.xs))
