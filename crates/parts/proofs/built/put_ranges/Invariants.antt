use mathlib.Core.Path.{◌≡◌}
use Prim.Native.Nat.{◌+◌, ◌-◌, ◌*◌, ◌≤◌}
use lib.ListN.{length}
use Rattle.model.specs.Ranges.{sizes}
use Rattle.model.specs.Raw.{ranges_at}
use Rattle.arrays.specs.Put.{put}
use Rattle.parts.specs.Words.{bin_words}
use Rattle.parts.proofs.built.put_ranges.Given as goal

abbrev pub invariant-loop-i : goal.invariant-loop-i
invariant-loop-i l =
    (l.i ≤ l.n) × (length l.out ≡ length l.initial.out) × (l.before + sizes (ranges_at l.t (l.r + 17 * l.i) (l.n - l.i)) ≡ sizes (ranges_at l.t l.r l.n))
    × (put (l.c + 7 * l.i) (bin_words l.d.first l.d.last l.d.share l.before (ranges_at l.t (l.r + 17 * l.i) (l.n - l.i))) l.out ≡ put l.c (bin_words l.d.first l.d.last l.d.share 0 (ranges_at l.t l.r l.n)) l.initial.out)
