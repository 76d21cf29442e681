use mathlib.Core.Path.{◌≡◌}
use Prim.Native.Nat.{◌+◌, ◌-◌, ◌*◌, ◌≤◌}
use lib.ListN.{length}
use Rattle.arrays.specs.Put.{put}
use Rattle.crosses.specs.Flags.{heads_at, bin_flags}
use Rattle.crosses.proofs.bins.put_bins.Given as goal

abbrev pub invariant-loop-i : goal.invariant-loop-i
invariant-loop-i l =
    (l.i ≤ l.n) × (length l.flags ≡ length l.initial.flags)
    × (l.at + length (bin_flags l.sample l.total l.live l.x l.y (heads_at l.t (l.b + 3 * l.i) (l.n - l.i))) ≡ l.initial.at + length (bin_flags l.sample l.total l.live l.initial.x l.initial.y (heads_at l.t l.b l.n)))
    × (put l.at (bin_flags l.sample l.total l.live l.x l.y (heads_at l.t (l.b + 3 * l.i) (l.n - l.i))) l.flags ≡ put l.initial.at (bin_flags l.sample l.total l.live l.initial.x l.initial.y (heads_at l.t l.b l.n)) l.initial.flags)
