use mathlib.Core.Path.{◌≡◌}
use mathlib.Core.List.{map}
use Prim.Native.Nat.{◌+◌, ◌-◌, ◌≤◌}
use Rattle.model.specs.Lists.{up_from}
use Rattle.arrays.specs.Put.{put}
use Rattle.products.specs.Tokens.{named_bit, named_from}
use Rattle.products.proofs.leaves.put_named.Given as goal

abbrev pub invariant-loop-i : goal.invariant-loop-i
invariant-loop-i l = (l.i ≤ l.n) × (put (l.row + l.i) (map (named_bit l.lists l.b) (up_from (l.from + l.i) (l.n - l.i))) l.leaves ≡ put l.row (named_from l.lists l.b l.from l.n) l.initial.leaves)
