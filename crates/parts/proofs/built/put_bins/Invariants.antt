use mathlib.Core.Path.{◌≡◌}
use Prim.Native.Nat.{◌+◌, ◌-◌, ◌*◌, ◌≤◌}
use lib.ListN.{length}
use Rattle.arrays.specs.Put.{put}
use Rattle.parts.specs.Words.{words_at, parts_in, own_listed, Fits}
use Rattle.parts.proofs.built.put_bins.Given as goal

abbrev pub invariant-loop-i : goal.invariant-loop-i
invariant-loop-i l =
    (l.i ≤ l.l.count) × (l.ranges ≤ l.initial.ranges + 1114095 * l.i) × (length l.out ≡ length l.initial.out) × (length l.room ≡ length l.initial.room) × (length l.sorted ≡ length l.initial.sorted) × Fits l.t l.q.low l.q.point (l.l.bins + 8 * l.i) l.ranges (l.l.count - l.i)
    × (l.next.at + length (words_at l.t l.q.low l.q.point l.next.first (l.l.bins + 8 * l.i) l.ranges (l.l.count - l.i)) ≡ l.at + length (words_at l.t l.q.low l.q.point 0 l.l.bins l.initial.ranges l.l.count))
    × (l.next.first + parts_in l.t l.q.low l.q.point (l.l.bins + 8 * l.i) l.ranges (l.l.count - l.i) ≡ parts_in l.t l.q.low l.q.point l.l.bins l.initial.ranges l.l.count)
    × (put l.next.at (words_at l.t l.q.low l.q.point l.next.first (l.l.bins + 8 * l.i) l.ranges (l.l.count - l.i)) l.out ≡ put l.at (words_at l.t l.q.low l.q.point 0 l.l.bins l.initial.ranges l.l.count) l.initial.out)
    × (own_listed l.t l.q.point (l.l.bins + 8 * l.i) (l.l.count - l.i) ≤ length l.initial.room)
