-- `samples::adds::add_unknowns` meets its contract. Assumes nothing.
use mathlib.Core.Path.{◌≡◌}
use mathlib.Core.Bool.{true}
use Prim.Native.Nat.{◌+◌, ◌-◌, ◌≤◌}
use lib.ListN.{length, take, drop}
use Rattle.arrays.specs.Put.{put}
use Rattle.samples.specs.Adds.{add_hits, is_unknown_code, all_room}
use Rattle.samples.proofs.adds.add_unknowns.Given as goal

abbrev pub invariant-loop-i : goal.invariant-loop-i
invariant-loop-i l =
    (l.i ≤ l.n) × (length l.register ≡ length l.initial.register) × (all_room (take (l.n - l.i) (drop (l.at + l.i) l.register)) ≡ true)
    × (put (l.at + l.i) (add_hits is_unknown_code (take (l.n - l.i) (drop l.i l.readings)) (take (l.n - l.i) (drop (l.at + l.i) l.register))) l.register ≡ put l.at (add_hits is_unknown_code (take l.n l.readings) (take l.n (drop l.at l.initial.register))) l.initial.register)
