use mathlib.Core.Path.{◌≡◌}
use Prim.Native.Nat.{◌+◌, ◌-◌, ◌*◌, ◌≤◌}
use Rattle.model.specs.Raw.{bins_at}
use Rattle.values.specs.Listed.{first_listing}
use Rattle.values.proofs.Listing.{left_of}
use Rattle.values.proofs.bins.first_listing.Given as goal

abbrev pub invariant-loop-j : goal.invariant-loop-j
invariant-loop-j l = (l.j ≤ l.m) × (left_of l.t l.a l.p l.v l.n l.bin l.at l.k l.m l.j ≡ first_listing l.p l.v 0 (bins_at l.t l.a l.r l.n))

abbrev pub invariant-bins : goal.invariant-bins
invariant-bins l = (l.bin ≤ l.n) × (l.at ≤ l.r + 1114095 * l.bin) × (first_listing l.p l.v l.bin (bins_at l.t (l.a + 8 * l.bin) l.at (l.n - l.bin)) ≡ first_listing l.p l.v 0 (bins_at l.t l.a l.r l.n))

abbrev pub decreases-bins : goal.decreases-bins
decreases-bins l = l.n - l.bin
