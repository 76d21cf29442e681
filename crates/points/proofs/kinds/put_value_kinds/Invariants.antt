use Rattle.points.specs.Kinds.{kinds_in}
use mathlib.Core.Path.{◌≡◌}
use Prim.Native.Nat.{◌+◌, ◌-◌, ◌*◌, ◌≤◌}
use lib.ListN.{length}
use Rattle.model.specs.Raw.{bins_at}
use Rattle.arrays.specs.Put.{put}
use Rattle.points.proofs.kinds.put_value_kinds.Given as goal

abbrev pub invariant-loop-i : goal.invariant-loop-i
invariant-loop-i l =
    (l.i ≤ l.own.count) × (l.at ≤ l.initial.at + 1114095 * l.i) × (length l.kinds ≡ length l.initial.kinds)
    × (l.c + length (kinds_in l.low l.p (bins_at l.t (l.own.bins + 8 * l.i) l.at (l.own.count - l.i))) ≡ l.cur + length (kinds_in l.low l.p (bins_at l.t l.own.bins l.initial.at l.own.count)))
    × (put l.c (kinds_in l.low l.p (bins_at l.t (l.own.bins + 8 * l.i) l.at (l.own.count - l.i))) l.kinds ≡ put l.cur (kinds_in l.low l.p (bins_at l.t l.own.bins l.initial.at l.own.count)) l.initial.kinds)
