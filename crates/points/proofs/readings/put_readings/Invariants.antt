use mathlib.Core.Path.{◌≡◌}
use Prim.Native.Nat.{◌-◌, ◌≤◌}
use lib.ListN.{length}
use Rattle.arrays.specs.Put.{put}
use Rattle.points.specs.Readings.{codes_from}
use Rattle.points.proofs.readings.put_readings.Given as goal

abbrev pub invariant-loop-i : goal.invariant-loop-i
invariant-loop-i l = (l.i ≤ l.n) × (length l.readings ≡ length l.initial.readings) × (put l.i (codes_from l.t l.sample l.points l.i (l.n - l.i)) l.readings ≡ put 0 (codes_from l.t l.sample l.points 0 l.n) l.initial.readings)
