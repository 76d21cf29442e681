use mathlib.Core.Path.{◌≡◌}
use Prim.Native.Nat.{◌-◌, ◌≤◌}
use lib.ListN.{length, take}
use Rattle.model.specs.Format.{table_of}
use Rattle.model.specs.Register.{point_total, run_stretches}
use Rattle.arrays.proofs.Written.{Written}
use Rattle.hits.specs.Places.{all_places}
use Rattle.hits.proofs.AllPlaces.{places_after}
use Rattle.hits.proofs.all.put_point_hits.Given as goal

abbrev pub invariant-loop-p : goal.invariant-loop-p
invariant-loop-p l =
    (l.n ≡ point_total (table_of l.t)) × (l.n ≤ 16) × (l.p ≤ l.n) × Written 0 (all_places (table_of l.t) l.sample (run_stretches (take (length (table_of l.t).transition_bins) l.lens))) l.initial.hits l.at l.hits (places_after (table_of l.t) l.sample (take (length (table_of l.t).transition_bins) l.lens) l.p (l.n - l.p)) × (l.matched ≡ l.initial.matched)
