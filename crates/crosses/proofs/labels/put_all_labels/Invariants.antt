use mathlib.Core.Path.{◌≡◌}
use mathlib.Core.List.{map}
use Prim.Native.Nat.{ℕ, ◌+◌, ◌-◌, ◌≤◌}
use lib.ListN.{length}
use Rattle.model.specs.Counters.{Counter}
use Rattle.model.specs.Format.{table_of}
use Rattle.arrays.specs.Put.{put}
use Rattle.arrays.specs.Flat.{all_cross_counters}
use Rattle.crosses.specs.Order.{Nth}
use Rattle.crosses.specs.Labels.{Labels}
use Rattle.crosses.proofs.Walks.{counters_from}
use Rattle.crosses.proofs.labels.put_all_labels.Given as goal

abbrev pub invariant-loop-c : goal.invariant-loop-c
invariant-loop-c l =
    (l.c ≤ l.n) × (l.n ≡ length (table_of l.t).crosses) × Nth l.t l.c l.p × (length l.out ≡ length l.initial.out)
    × (l.at + length (counters_from (table_of l.t) l.c (l.n - l.c)) ≡ l.cur + length (all_cross_counters (table_of l.t)))
    × ((g : Counter → ℕ) → Labels g l.e.cover l.e.illegal l.e.product l.each → put l.at (map g (counters_from (table_of l.t) l.c (l.n - l.c))) l.out ≡ put l.cur (map g (all_cross_counters (table_of l.t))) l.initial.out)
