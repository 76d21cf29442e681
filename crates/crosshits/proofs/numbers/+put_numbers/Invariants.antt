-- The measure is the number of positions left. Assumes nothing.
use mathlib.Core.List.{List, map}
use Prim.Native.Nat.{ℕ, ◌+◌, ◌-◌, ◌*◌, ◌≤◌}
use lib.ListN.{get_or, drop}
use Rattle.model.specs.Lists.{up_from, concat_of}
use Rattle.arrays.proofs.Written.{Written}
use Rattle.products.specs.Shapes.{sizes_of}
use Rattle.crosshits.specs.Numbers.{numbers_from}
use Rattle.crosshits.proofs.numbers.+put_numbers.Given as goal

abbrev pub left : List ℕ → List ℕ → List ℕ → ℕ → ℕ → ℕ → ℕ → ℕ → ℕ → List ℕ
left t found sizes first point inner row n i = concat_of (λ d. numbers_from t found (point + 1) (first + d * inner) sizes) (map (λ k. get_or found (row + 1 + k) 0) (up_from i (n - i)))

abbrev pub invariant-loop-i : goal.invariant-loop-i
invariant-loop-i l =
    (l.i ≤ l.n) × Written l.at (numbers_from l.t l.found l.point l.first (drop l.q (sizes_of l.s))) l.initial.list l.e l.list (left l.t l.found (drop (l.q + 1) (sizes_of l.s)) l.first l.point l.inner l.row l.n l.i)

abbrev pub decreases-loop-i : goal.decreases-loop-i
decreases-loop-i l = l.n - l.i

abbrev pub decreases-put_numbers : goal.decreases-put_numbers
decreases-put_numbers l = l.s.count - l.x.q
