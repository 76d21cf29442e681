use mathlib.Core.Path.{◌≡◌}
use Prim.Native.Nat.{◌+◌, ◌*◌, ◌≤◌}
use Rattle.spans.specs.Part.{ranges_past}
use Rattle.spans.proofs.PassLaws.{Passed}
use Rattle.spans.proofs.part.own_parts.Given as goal

abbrev pub invariant-loop-i : goal.invariant-loop-i
invariant-loop-i l =
    (l.i ≤ l.n) × (l.a ≡ l.initial.a + 8 * l.i) × (l.r ≡ ranges_past l.t l.initial.a l.initial.r l.i) × (l.r ≤ l.initial.r + 1114095 * l.i) × Passed l.t l.initial.a l.initial.r l.i l.own
