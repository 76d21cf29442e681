use Rattle.std.proofs.Common.{◌≡◌, ◌-◌, ◌≤◌, length, replicate}
use Rattle.arrays.specs.Put.{put}
use Rattle.arrays.proofs.put_same.Given as goal

abbrev pub invariant-loop-i : goal.invariant-loop-i
invariant-loop-i g l =
    (l.i ≤ l.end) × (length l.xs ≡ length l.initial.xs) × (put l.i (replicate (l.end - l.i) l.v) l.xs ≡ put l.at (replicate l.n l.v) l.initial.xs)
