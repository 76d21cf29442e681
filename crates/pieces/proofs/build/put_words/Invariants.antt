use mathlib.Core.Path.{◌≡◌}
use Prim.Native.Nat.{◌+◌, ◌≤◌}
use lib.ListN.{length, drop}
use Rattle.arrays.specs.Put.{put}
use Rattle.pieces.proofs.build.put_words.Given as goal

abbrev pub invariant-loop-i : goal.invariant-loop-i
invariant-loop-i l =
    (l.i ≤ l.n) × (l.n ≡ length l.words) × (length l.out ≡ length l.initial.out) × (put (l.at + l.i) (drop l.i l.words) l.out ≡ put l.at l.words l.initial.out)
