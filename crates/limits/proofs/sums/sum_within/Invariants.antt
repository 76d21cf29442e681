use Prim.Native.Nat.{ℕ, ◌≤◌, ◌+◌, ◌*◌, ◌-◌}
use mathlib.Core.Path.{◌≡◌}
use lib.Dec.{leb}
use Rattle.model.specs.Lists.{all}
use Rattle.model.specs.Raw.{rows}
use Rattle.limits.specs.Walks.{walk_sum, after}
use Rattle.limits.specs.Bins.{here}
use Rattle.limits.proofs.sums.sum_within.Given as goal

abbrev pub invariant-loop-i : goal.invariant-loop-i
invariant-loop-i g l =
    (l.i ≤ l.n) × (l.at ≤ l.start + 20 * l.i) × (l.sum ≤ l.limit * l.i)
    × ((f : ℕ → ℕ) → ((at y : ℕ) → at ≤ 100000000 → goal.F-post g l.term at y → y ≡ f at)
    → (all (λ at. leb (f at) l.limit) (rows here l.size l.start l.n) ≡ all (λ at. leb (f at) l.limit) (rows here l.size l.at (l.n - l.i)))
    × (walk_sum 0 f (after l.size) l.start l.n ≡ walk_sum l.sum f (after l.size) l.at (l.n - l.i)))
