use mathlib.Core.Path.{◌≡◌}
use Prim.Native.Nat.{◌-◌}
use lib.ListN.{length}
use Rattle.turns.proofs.TurnLaws.{Going}
use Rattle.turns.proofs.each.Given as goal

abbrev pub invariant-loop-a : goal.invariant-loop-a
invariant-loop-a l =
    Going l.t l.s l.initial.register l.initial.reports l.register l.reports l.a l.k l.taken × (length l.register ≡ length l.initial.register) × (length l.reports ≡ length l.initial.reports) × (length l.hits ≡ length l.initial.hits)

abbrev pub decreases-loop-a : goal.decreases-loop-a
decreases-loop-a l = length l.s - l.a
