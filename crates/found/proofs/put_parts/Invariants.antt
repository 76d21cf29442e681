use mathlib.Core.Path.{◌≡◌}
use Prim.Native.Nat.{◌+◌, ◌-◌, ◌*◌, ◌/◌, ◌≤◌}
use lib.ListN.{length}
use Rattle.arrays.proofs.Written.{Written}
use Rattle.parts.specs.Words.{plan_rows_at}
use Rattle.found.specs.Found.{guard_at, new_parts}
use Rattle.found.proofs.put_parts.Given as goal

abbrev pub invariant-loop-i : goal.invariant-loop-i
invariant-loop-i l =
    let f = guard_at l.t l.sample l.origins l.bins in
    (l.i ≤ l.n) × (l.n ≡ length l.rows / 7) × Written 1 (new_parts f 0 l.value (plan_rows_at l.rows 0 (length l.rows / 7))) l.initial.found l.c.at l.found (new_parts f l.c.next l.value (plan_rows_at l.rows (0 + 7 * l.i) (l.n - l.i)))
