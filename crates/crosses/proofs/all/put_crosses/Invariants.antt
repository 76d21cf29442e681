use mathlib.Core.Path.{◌≡◌}
use Prim.Native.Nat.{◌+◌, ◌-◌, ◌≤◌}
use lib.ListN.{length}
use Rattle.model.specs.Sampling.{Stretches}
use Rattle.model.specs.Format.{table_of}
use Rattle.arrays.specs.Put.{put}
use Rattle.arrays.specs.Flat.{Tells, all_cross_counters}
use Rattle.crosses.specs.Order.{Nth}
use Rattle.crosses.specs.Flags.{gate_of, flags_of}
use Rattle.crosses.specs.Marked.{mark_start}
use Rattle.crosses.proofs.Walks.{counters_from}
use Rattle.crosses.proofs.all.put_crosses.Given as goal

abbrev pub invariant-loop-c : goal.invariant-loop-c
invariant-loop-c l =
    (l.c ≤ l.n) × (l.n ≡ length (table_of l.t).crosses) × Nth l.t l.c l.p × (length l.flags ≡ length l.initial.flags) × (length l.hits ≡ 2048) × (l.base ≡ mark_start (table_of l.t) l.c)
    × (l.at + length (counters_from (table_of l.t) l.c (l.n - l.c)) ≡ l.initial.at + length (all_cross_counters (table_of l.t)))
    × ((m : Stretches) → Tells (gate_of l.total (table_of l.t) l.sample) (table_of l.t) l.gate
    → put l.at (flags_of l.total (table_of l.t) l.sample m (counters_from (table_of l.t) l.c (l.n - l.c))) l.flags ≡ put l.initial.at (flags_of l.total (table_of l.t) l.sample m (all_cross_counters (table_of l.t))) l.initial.flags)
