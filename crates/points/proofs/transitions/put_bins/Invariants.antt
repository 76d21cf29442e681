use mathlib.Core.Path.{◌≡◌}
use Prim.Native.Nat.{◌+◌, ◌-◌, ◌≤◌}
use lib.ListN.{length}
use Rattle.arrays.specs.Put.{put}
use Rattle.points.specs.Transitions.{flags_from}
use Rattle.points.proofs.transitions.put_bins.Given as goal

abbrev pub invariant-loop-i : goal.invariant-loop-i
invariant-loop-i l =
    (l.i ≤ l.n) × (length l.flags ≡ length l.initial.flags)
    × (l.c + length (flags_from l.t l.sample l.lens l.e.point l.e.skip l.e.lost l.b l.i (l.n - l.i)) ≡ l.cur + length (flags_from l.t l.sample l.lens l.e.point l.e.skip l.e.lost l.b 0 l.n))
    × (put l.c (flags_from l.t l.sample l.lens l.e.point l.e.skip l.e.lost l.b l.i (l.n - l.i)) l.flags ≡ put l.cur (flags_from l.t l.sample l.lens l.e.point l.e.skip l.e.lost l.b 0 l.n) l.initial.flags)
