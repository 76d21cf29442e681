use Rattle.points.specs.Kinds.{transition_kinds_from}
use mathlib.Core.Path.{◌≡◌}
use Prim.Native.Nat.{◌+◌, ◌-◌, ◌≤◌}
use lib.ListN.{length}
use Rattle.arrays.specs.Put.{put}
use Rattle.points.proofs.kinds.put_transition_kinds.Given as goal

abbrev pub invariant-loop-i : goal.invariant-loop-i
invariant-loop-i l =
    (l.i ≤ l.n) × (length l.kinds ≡ length l.initial.kinds)
    × (l.c + length (transition_kinds_from l.t l.p l.b l.i (l.n - l.i)) ≡ l.cur + length (transition_kinds_from l.t l.p l.b 0 l.n))
    × (put l.c (transition_kinds_from l.t l.p l.b l.i (l.n - l.i)) l.kinds ≡ put l.cur (transition_kinds_from l.t l.p l.b 0 l.n) l.initial.kinds)
