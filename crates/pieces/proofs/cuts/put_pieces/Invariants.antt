use mathlib.Core.List.{List}
use Prim.Native.Nat.{ℕ, ◌+◌, ◌-◌, ◌*◌, ◌≤◌}
use Rattle.arrays.proofs.Written.{Written}
use Rattle.spans.specs.Point.{free_value}
use Rattle.parts.specs.Words.{plan_rows_at}
use Rattle.pieces.specs.Cuts.{all_pieces, piece_words}
use Rattle.pieces.proofs.cuts.put_pieces.Given as goal

-- the words of n rows from `from` on
abbrev pub left : List ℕ → List ℕ → ℕ → ℕ → ℕ → List ℕ
left w spans low from n = piece_words (all_pieces (free_value spans low) (plan_rows_at w from n))

abbrev pub invariant-loop-i : goal.invariant-loop-i
invariant-loop-i l =
    Written l.at (left l.initial.out l.spans l.low l.from l.n) l.initial.out l.e l.out (left l.initial.out l.spans l.low (l.from + 7 * l.i) (l.n - l.i)) × (l.at ≤ l.e)
