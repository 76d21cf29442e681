use mathlib.Core.Path.{◌≡◌}
use Prim.Native.Nat.{◌≤◌}
use lib.ListN.{length}
use Rattle.spans.specs.Spans.{join_all}
use Rattle.spans.proofs.JoinLaws.{Joining}
use Rattle.spans.proofs.joins.join.Given as goal

abbrev pub invariant-loop-v : goal.invariant-loop-v
invariant-loop-v l =
    (l.v-index ≤ length l.rest) × (l.c ≤ l.v-index) × (length l.out ≡ length l.initial.out) × Joining (join_all l.a) l.initial.out l.out l.rest l.w l.c l.v-index
