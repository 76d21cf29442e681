use mathlib.Core.Path.{◌≡◌}
use mathlib.Core.Bool.{true}
use mathlib.Core.List.{map}
use Prim.Native.Nat.{◌+◌, ◌*◌, ◌≤◌}
use lib.ListN.{length, drop}
use Rattle.model.specs.Lists.{all, sum_of}
use Rattle.arrays.specs.Put.{put}
use Rattle.spans.specs.Spans.{sound}
use Rattle.parts.specs.Rows.{span_from, span_size}
use Rattle.parts.specs.Words.{bin_words}
use Rattle.parts.proofs.settled.put_spans.Given as goal

abbrev pub invariant-loop-i : goal.invariant-loop-i
invariant-loop-i l =
    (l.i ≤ length l.spans) × (length l.out ≡ length l.initial.out) × (l.before + sum_of span_size (drop l.i l.spans) ≡ sum_of span_size l.spans) × (all sound (drop l.i l.spans) ≡ true)
    × (put (l.c + 7 * l.i) (bin_words l.d.first l.d.last l.d.share l.before (map (span_from l.low) (drop l.i l.spans))) l.out ≡ put l.c (bin_words l.d.first l.d.last l.d.share 0 (map (span_from l.low) l.spans)) l.initial.out)
