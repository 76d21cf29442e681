use Prim.Native.Nat.{◌+◌, ◌-◌, ◌*◌, ◌≤◌}
use Rattle.model.specs.Raw.{bins_at}
use Rattle.arrays.proofs.Written.{Written}
use Rattle.origins.specs.Points.{origins_in}
use Rattle.origins.proofs.listed.put_listed.Given as goal

abbrev pub invariant-loop-i : goal.invariant-loop-i
invariant-loop-i l =
    (l.i ≤ l.own.count) × (l.r ≤ l.initial.r + 1114095 * l.i)
    × Written l.at (origins_in l.low l.p l.first (bins_at l.t l.own.bins l.initial.r l.own.count)) l.initial.out l.c l.out (origins_in l.low l.p (l.first + l.i) (bins_at l.t (l.own.bins + 8 * l.i) l.r (l.own.count - l.i)))
