use Prim.Native.Nat.{◌≤◌, ◌*◌, ◌-◌}
use mathlib.Core.Path.{◌≡◌}
use Rattle.model.specs.Counters.{product_of}
use Rattle.limits.specs.Bins.{entry, capped, points_from, cross_products}
use Rattle.limits.proofs.crosses.cross_products.Given as goal

abbrev pub invariant-loop-i : goal.invariant-loop-i
invariant-loop-i l =
    (l.i ≤ l.n) × (l.n ≤ 255) × (l.product ≤ 1025) × (cross_products l.covers l.t l.c ≡ capped (l.product * product_of (entry l.covers) (points_from l.t l.c l.i (l.n - l.i))))
