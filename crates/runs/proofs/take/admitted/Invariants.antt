-- `take::admitted` meets its contract: the ranges that are left, with the bits so far, give the whole. Assumes nothing.
use mathlib.Core.Path.{◌≡◌}
use Prim.Native.Nat.{◌≤◌}
use lib.Bits.{bit_or}
use Rattle.runs.proofs.Admitted.{bits_from}
use Rattle.runs.proofs.take.admitted.Given as goal

abbrev pub invariant-loop-i : goal.invariant-loop-i
invariant-loop-i l =
    (l.i ≤ l.n) × (bit_or l.r (bits_from l.ranges l.v l.i l.n) ≡ bits_from l.ranges l.v 0 l.n)
