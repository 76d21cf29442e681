use Prim.Native.Nat.{◌≤◌, ◌+◌, ◌*◌, ◌-◌}
use mathlib.Core.Path.{◌≡◌}
use Rattle.words.specs.Kinds.{byte_of}
use Rattle.limits.specs.Walks.{walk_sum, cross_kinds, next_cross}
use Rattle.limits.proofs.kinds.cross_kinds.Given as goal

abbrev pub invariant-loop-i : goal.invariant-loop-i
invariant-loop-i l =
    (l.i ≤ l.fn.l.cross_count) × (l.c ≤ l.fn.l.crosses + 13 * l.i) × (l.b ≤ l.fn.l.cross_bins + 765 * l.i) × (l.sum ≤ 65025 * l.i) × (walk_sum 0 (cross_kinds l.t (byte_of l.kind)) (next_cross l.t) (l.fn.l.crosses, l.fn.l.cross_bins) l.fn.l.cross_count ≡ walk_sum l.sum (cross_kinds l.t (byte_of l.kind)) (next_cross l.t) (l.c, l.b) (l.fn.l.cross_count - l.i))
