use mathlib.Core.Path.{◌≡◌}
use mathlib.Core.Bool.{true}
use Prim.Native.Nat.{◌+◌, ◌-◌, ◌*◌, ◌≤◌}
use lib.ListN.{length}
use Rattle.model.specs.Lists.{all}
use Rattle.model.specs.Raw.{ranges_at}
use Rattle.arrays.specs.Put.{put}
use Rattle.spans.specs.Collected.{fits_from, words_from}
use Rattle.spans.proofs.collects.put_ranges.Given as goal

abbrev pub invariant-loop-i : goal.invariant-loop-i
invariant-loop-i l =
    (l.i ≤ l.n) × (length l.out ≡ length l.initial.out) × (all (fits_from l.low) (ranges_at l.t (l.start + 17 * l.i) (l.n - l.i)) ≡ true)
    × (put (l.at + l.i) (words_from l.low (ranges_at l.t (l.start + 17 * l.i) (l.n - l.i))) l.out ≡ put l.at (words_from l.low (ranges_at l.t l.start l.n)) l.initial.out)
