use mathlib.Core.Path.{ap}
use Prim.Native.Nat.{ℕ, ◌+◌}
use native.Mathlib.Omega.{arith}
use Rattle.spans.proofs.lookup.free_value.Goals as goal

pub overflow_add-result : goal.overflow_add-result
overflow_add-result c = omega (arith, c.free_from.ensures.1, c.requires)

pub returns : goal.returns
returns c =
    let e = c.free_from in
    (ap (λ (x : ℕ). c.args.low + x) e.ensures.0, omega (arith, e.ensures.1, c.requires))
