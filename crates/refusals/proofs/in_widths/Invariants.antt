use mathlib.Core.Path.{◌≡◌}
use Prim.Native.Nat.{◌-◌, ◌≤◌}
use Rattle.model.specs.Lists.{all, up_from}
use Rattle.refusals.specs.Refusals.{in_width_at, in_widths_at}
use Rattle.refusals.proofs.in_widths.Given as goal

abbrev pub invariant-loop-p : goal.invariant-loop-p
invariant-loop-p l = (l.p ≤ l.points) × (all (in_width_at l.t l.sample) (up_from l.p (l.points - l.p)) ≡ in_widths_at l.t l.sample l.points)
