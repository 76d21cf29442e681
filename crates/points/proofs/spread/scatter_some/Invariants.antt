use mathlib.Core.Path.{◌≡◌}
use Prim.Native.Nat.{◌+◌, ◌-◌, ◌≤◌}
use lib.ListN.{length}
use Rattle.arrays.specs.Put.{put}
use Rattle.points.specs.Spread.{spread}
use Rattle.points.proofs.spread.scatter_some.Given as goal

abbrev pub invariant-loop-i : goal.invariant-loop-i
invariant-loop-i l = (l.i ≤ l.n) × (length l.flags ≡ length l.initial.flags) × (l.a ≤ l.at + l.i) × (put (l.from + l.i) (spread l.kinds l.has (l.from + l.i) l.a (l.n - l.i)) l.flags ≡ put l.from (spread l.kinds l.has l.from l.at l.n) l.initial.flags)
