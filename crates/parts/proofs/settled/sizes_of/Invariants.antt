use mathlib.Core.Path.{◌≡◌}
use mathlib.Core.Bool.{true}
use Prim.Native.Nat.{◌+◌, ◌≤◌}
use lib.ListN.{length, drop}
use Rattle.model.specs.Lists.{all, sum_of}
use Rattle.spans.specs.Spans.{sound}
use Rattle.parts.specs.Rows.{span_size}
use Rattle.parts.proofs.settled.sizes_of.Given as goal

abbrev pub invariant-loop-span : goal.invariant-loop-span
invariant-loop-span l = (l.span-index ≤ length l.spans) × (l.sum + sum_of span_size (drop l.span-index l.spans) ≡ sum_of span_size l.spans) × (all sound (drop l.span-index l.spans) ≡ true)
