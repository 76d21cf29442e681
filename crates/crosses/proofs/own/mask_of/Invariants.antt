use mathlib.Core.Path.{◌≡◌}
use Prim.Native.Nat.{◌+◌, ◌-◌, ◌*◌, ◌≤◌}
use Rattle.crosses.specs.Flags.{heads_at, mask_of}
use Rattle.crosses.proofs.own.mask_of.Given as goal

abbrev pub invariant-loop-i : goal.invariant-loop-i
invariant-loop-i l = (l.i ≤ l.n) × (l.mask ≡ mask_of (heads_at l.t (l.b + 3 * l.i) (l.n - l.i)))
