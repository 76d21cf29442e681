use mathlib.Core.Path.{◌≡◌}
use Prim.Native.Nat.{◌+◌, ◌-◌, ◌≤◌}
use lib.ListN.{length}
use Rattle.model.specs.Sampling.{Stretches, hits}
use Rattle.model.specs.Format.{table_of}
use Rattle.arrays.specs.Flat.{all_cross_counters}
use Rattle.arrays.proofs.Written.{Written}
use Rattle.places.specs.Places.{places_from}
use Rattle.crosses.specs.Order.{Nth}
use Rattle.crosses.specs.Marked.{mark_start}
use Rattle.crosses.proofs.Walks.{counters_from}
use Rattle.crosshits.proofs.all.put_cross_hits.Given as goal

abbrev pub invariant-loop-c : goal.invariant-loop-c
invariant-loop-c l =
    (l.c ≤ l.n) × (l.n ≡ length (table_of l.t).crosses) × Nth l.t l.c l.p × (length l.hits ≡ length l.initial.hits) × (l.start ≡ 16 + mark_start (table_of l.t) l.c)
    × (l.first + length (counters_from (table_of l.t) l.c (l.n - l.c)) ≡ l.base + length (all_cross_counters (table_of l.t))) × (l.at + l.base ≤ l.first)
    × ((m : Stretches) → Written 0 (places_from (hits (table_of l.t) l.sample m) l.base (all_cross_counters (table_of l.t))) l.initial.hits l.at l.hits (places_from (hits (table_of l.t) l.sample m) l.first (counters_from (table_of l.t) l.c (l.n - l.c))))
