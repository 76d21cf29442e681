use mathlib.Core.Path.{◌≡◌}
use Prim.Native.Nat.{◌-◌, ◌≤◌}
use lib.ListN.{take, drop}
use Rattle.model.specs.Lists.{all}
use Rattle.refusals.specs.Refusals.{at_most}
use Rattle.refusals.proofs.counts_hold.Given as goal

abbrev pub invariant-loop-i : goal.invariant-loop-i
invariant-loop-i l =
    (2 ≤ l.i) × (l.i ≤ l.end) × (all (at_most l.samples) (take (l.end - l.i) (drop l.i l.register)) ≡ all (at_most l.samples) (take (l.end - 2) (drop 2 l.register)))
