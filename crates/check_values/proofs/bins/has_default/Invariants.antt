use Prim.Native.Nat.{◌≤◌}
use mathlib.Core.Path.{◌≡◌}
use lib.Dec.{eqb}
use Rattle.model.specs.Lists.{any}
use Rattle.check_values.specs.Places.{defaults_up_to}
use Rattle.check_values.proofs.bins.has_default.Given as goal

abbrev pub invariant-loop-k : goal.invariant-loop-k
invariant-loop-k l = (l.k ≤ l.count) × (any (eqb l.p) (defaults_up_to l.t l.base l.count) ≡ any (eqb l.p) (defaults_up_to l.t l.base l.k))
