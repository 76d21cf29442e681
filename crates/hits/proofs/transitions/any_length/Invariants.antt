use mathlib.Core.Path.{◌≡◌}
use mathlib.Core.Bool.{◌||◌}
use Prim.Native.Nat.{◌≤◌}
use lib.ListN.{length, drop}
use Rattle.hits.specs.Places.{any_length}
use Rattle.hits.proofs.transitions.any_length.Given as goal

abbrev pub invariant-loop-x : goal.invariant-loop-x
invariant-loop-x l = (l.x-index ≤ length l.lens) × (any_length l.lens ≡ (l.some || any_length (drop l.x-index l.lens)))
