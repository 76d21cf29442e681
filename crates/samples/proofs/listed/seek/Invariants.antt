use mathlib.Core.Path.{◌≡◌}
use Prim.Native.Nat.{ℕ, ◌-◌, ◌≤◌}
use lib.ListN.{drop}
use Rattle.model.specs.Lists.{one_of}
use Rattle.samples.proofs.listed.seek.Given as goal

abbrev pub invariant-loop-j : goal.invariant-loop-j
invariant-loop-j l = (l.j ≤ l.n) × ((x : ℕ) → l.k ≤ x → one_of x (drop l.j l.hits) ≡ one_of x (drop l.from l.hits))

abbrev pub decreases-loop-j : goal.decreases-loop-j
decreases-loop-j l = l.n - l.j
