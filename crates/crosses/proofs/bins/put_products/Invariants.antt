use mathlib.Core.Path.{◌≡◌}
use Prim.Native.Nat.{◌+◌, ◌≤◌}
use lib.ListN.{length, take, drop}
use Rattle.arrays.specs.Put.{put}
use Rattle.crosses.specs.Flags.{product_flags}
use Rattle.crosses.proofs.bins.put_products.Given as goal

abbrev pub invariant-loop-i : goal.invariant-loop-i
invariant-loop-i l =
    (l.i ≤ l.n) × (length l.flags ≡ length l.initial.flags)
    × (l.cur + l.i + length (product_flags l.live (drop l.i (take l.n l.hits)) (drop l.i (take l.n l.marks))) ≡ l.cur + l.n)
    × (put (l.cur + l.i) (product_flags l.live (drop l.i (take l.n l.hits)) (drop l.i (take l.n l.marks))) l.flags ≡ put l.cur (product_flags l.live (take l.n l.hits) (take l.n l.marks)) l.initial.flags)
