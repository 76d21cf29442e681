use mathlib.Core.Path.{◌≡◌}
use Prim.Native.Nat.{◌+◌, ◌-◌, ◌≤◌}
use lib.ListN.{length, take, drop}
use Rattle.arrays.specs.Put.{put}
use Rattle.hits.specs.Places.{elements_at}
use Rattle.hits.proofs.covers.put_found.Given as goal

abbrev pub invariant-loop-i : goal.invariant-loop-i
invariant-loop-i l =
    (l.i ≤ l.n) × (length l.hits ≡ length l.initial.hits) × (put l.i (elements_at l.places (take (l.n - l.i) (drop (1 + l.i) l.found))) l.hits ≡ put 0 (elements_at l.places (take l.n (drop 1 l.found))) l.initial.hits)
