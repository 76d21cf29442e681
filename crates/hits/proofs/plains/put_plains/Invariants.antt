use Prim.Native.Nat.{◌+◌, ◌-◌, ◌*◌, ◌≤◌}
use Rattle.model.specs.Raw.{bins_at}
use Rattle.arrays.proofs.Written.{Written}
use Rattle.hits.specs.Plains.{plain_hits}
use Rattle.hits.proofs.plains.put_plains.Given as goal

abbrev pub invariant-loop-i : goal.invariant-loop-i
invariant-loop-i l =
    (l.i ≤ l.n) × (l.at ≤ l.initial.at + 1114095 * l.i) × (l.j ≤ l.i) × Written 0 (plain_hits l.sample l.h.point l.h.value l.h.listed l.plains 0 (bins_at l.t l.a l.initial.at l.n)) l.initial.hits l.c l.hits (plain_hits l.sample l.h.point l.h.value l.h.listed l.plains l.j (bins_at l.t (l.a + 8 * l.i) l.at (l.n - l.i)))
