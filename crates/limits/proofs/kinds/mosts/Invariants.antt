use Prim.Native.Nat.{◌≤◌, ◌+◌, ◌*◌, ◌-◌}
use mathlib.Core.Path.{◌≡◌}
use Rattle.limits.specs.Walks.{walk_sum, mosts_in, next_transition}
use Rattle.limits.proofs.kinds.mosts.Given as goal

abbrev pub invariant-loop-i : goal.invariant-loop-i
invariant-loop-i l =
    (l.i ≤ l.fn.l.transition_count) × (l.b ≤ l.fn.l.transitions + 4 * l.i) × (l.q ≤ l.fn.l.sequences + 255 * l.i) × (l.p ≤ l.fn.l.steps + 195075 * l.i) × (l.sum ≤ 16581375 * l.i) × (walk_sum 0 (mosts_in l.t) (next_transition l.t) (l.fn.l.transitions, l.fn.l.sequences, l.fn.l.steps) l.fn.l.transition_count ≡ walk_sum l.sum (mosts_in l.t) (next_transition l.t) (l.b, l.q, l.p) (l.fn.l.transition_count - l.i))
