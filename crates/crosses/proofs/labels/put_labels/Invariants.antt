use mathlib.Core.Path.{◌≡◌}
use Prim.Native.Nat.{◌+◌, ◌-◌, ◌*◌, ◌≤◌}
use lib.ListN.{length}
use Rattle.arrays.specs.Put.{put}
use Rattle.crosses.specs.Flags.{heads_at}
use Rattle.crosses.specs.Labels.{bin_labels}
use Rattle.crosses.proofs.labels.put_labels.Given as goal

abbrev pub invariant-loop-i : goal.invariant-loop-i
invariant-loop-i l =
    (l.i ≤ l.n) × (length l.out ≡ length l.initial.out)
    × (l.at + length (bin_labels l.e.cover l.e.illegal (heads_at l.t (l.b + 3 * l.i) (l.n - l.i))) ≡ l.cur + length (bin_labels l.e.cover l.e.illegal (heads_at l.t l.b l.n)))
    × (put l.at (bin_labels l.e.cover l.e.illegal (heads_at l.t (l.b + 3 * l.i) (l.n - l.i))) l.out ≡ put l.cur (bin_labels l.e.cover l.e.illegal (heads_at l.t l.b l.n)) l.initial.out)
