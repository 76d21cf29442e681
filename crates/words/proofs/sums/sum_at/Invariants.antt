use Prim.Native.Nat.{ℕ, ◌≤◌, ◌<◌, ◌+◌, ◌*◌, ◌-◌, ◌^◌}
use mathlib.Core.Path.{◌≡◌}
use Rattle.words.specs.Sums.{sum_from, here}
use Rattle.words.proofs.sums.sum_at.Given as goal

abbrev pub invariant-loop-i : goal.invariant-loop-i
invariant-loop-i g l =
    (l.i ≤ l.n) × (l.at ≤ l.start + 20 * l.i) × (l.sum ≤ 255 * l.i)
    × ((f : ℕ → ℕ) → ((at y : ℕ) → at < 2 ^ 64 → goal.F-post g l.term at y → y ≡ f at) → sum_from 0 f here l.size l.start l.n ≡ sum_from l.sum f here l.size l.at (l.n - l.i))
