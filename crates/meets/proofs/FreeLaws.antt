-- What finds the first value that is left.
-- Assumes nothing.
use mathlib.Core.Path.{◌≡◌, ap₂}
use mathlib.Core.Bool.{Bool, false, ◌&&◌}
use mathlib.Core.List.{List}
use Prim.Native.Nat.{ℕ, ◌≤◌}
use native.Mathlib.Omega.{arith}
use borrow.Author.Tests.{le-leb}
use Rattle.model.specs.Table.{Table}
use Rattle.model.specs.Values.{lowest, highest}
use Rattle.model.specs.Counters.{point_at, excluded_value}
use Rattle.spans.specs.Point.{SpansOf, free_value}
use Rattle.spans.proofs.Point.{free_from, free_left, free_below}

-- f finds the first number from y up that is not excluded, where that is at most `high`
pub record Finds (low high : ℕ) (out : ℕ → Bool) (f : ℕ → ℕ) : Type 0 where
  pub from : (y : ℕ) → low ≤ y → y ≤ f y
  pub left : (y : ℕ) → low ≤ y → f y ≤ high → out (f y) ≡ false
  pub below : (y v : ℕ) → low ≤ y → y ≤ v → v ≤ high → out v ≡ false → f y ≤ v

-- the look among a point's spans does
pub finds_of : (t : Table) (p : ℕ) (ws : List ℕ) → SpansOf t p ws → Finds (lowest (point_at t p)) (highest (point_at t p)) (excluded_value t p) (free_value ws (lowest (point_at t p)))
finds_of t p ws o = record {
  from = λ y h. free_from t p ws o y h;
  left = λ y h k. free_left t p ws o y h (ap₂ ◌&&◌ (le-leb low (free_value ws low y) (omega (arith, free_from t p ws o y h))) (le-leb (free_value ws low y) (highest (point_at t p)) k));
  below = λ y v h k u e. free_below t p ws o y h v k (ap₂ ◌&&◌ (le-leb low v (omega arith)) (le-leb v (highest (point_at t p)) u)) e;
}
  where
    low : ℕ
    low = lowest (point_at t p)
