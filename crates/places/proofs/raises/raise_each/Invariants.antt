use mathlib.Core.Path.{◌≡◌}
use lib.ListN.{drop}
use Rattle.places.specs.Raises.{raise_each, Raisable}
use Rattle.places.proofs.raises.raise_each.Given as goal

abbrev pub invariant-loop-place : goal.invariant-loop-place
invariant-loop-place l = Raisable l.at (drop l.place-index l.places) l.register × (raise_each l.at (drop l.place-index l.places) l.register ≡ raise_each l.at l.places l.initial.register)
