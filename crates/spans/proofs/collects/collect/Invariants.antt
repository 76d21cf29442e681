use Prim.Native.Nat.{◌+◌, ◌*◌, ◌≤◌}
use Rattle.ranges.specs.Taken.{excluded_at}
use Rattle.spans.proofs.CollectLaws.{Collecting}
use Rattle.spans.proofs.collects.collect.Given as goal

abbrev pub invariant-loop-i : goal.invariant-loop-i
invariant-loop-i l =
    (l.i ≤ l.place.count) × (l.r ≤ l.place.ranges + 1114095 * l.i) × Collecting l.t l.p l.low (excluded_at l.t l.place.bins l.place.ranges l.place.count l.p) l.initial.out l.out l.at (l.place.bins + 8 * l.i) l.r l.place.count l.i
