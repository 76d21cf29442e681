use mathlib.Core.List.{List}
use Prim.Native.Nat.{ℕ, ◌+◌, ◌-◌}
use Rattle.arrays.proofs.Written.{Written}
use Rattle.spans.specs.Point.{free_value}
use Rattle.pieces.specs.Cuts.{cuts_from, piece_words}
use Rattle.pieces.proofs.cuts.put_cuts.Given as goal

-- the words of the parts from j on
abbrev pub left : List ℕ → ℕ → ℕ → ℕ → ℕ → ℕ → ℕ → ℕ → ℕ → List ℕ
left spans low lo hi before share first top j = piece_words (cuts_from (free_value spans low) lo hi before share first top j (top + 1 - j))

abbrev pub invariant-loop-j : goal.invariant-loop-j
invariant-loop-j l =
    Written l.at (left l.spans l.low l.c.lo l.c.hi l.c.before l.c.share l.c.first l.c.top l.c.from) l.initial.out l.e l.out (left l.spans l.low l.c.lo l.c.hi l.c.before l.c.share l.c.first l.c.top l.j)
