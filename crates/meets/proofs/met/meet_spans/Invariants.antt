use mathlib.Core.Path.{◌≡◌}
use Prim.Native.Nat.{ℕ, ◌-◌, ◌*◌, ◌≤◌}
use lib.ListN.{length}
use Rattle.parts.specs.Rows.{raise_all}
use Rattle.meets.specs.Pieces.{pieces_at}
use Rattle.meets.specs.Met.{met_parts, reach_end}
use Rattle.meets.proofs.met.meet_spans.Given as goal

abbrev pub invariant-loop-j : goal.invariant-loop-j
invariant-loop-j l =
    (l.i ≤ l.j) × (l.j ≤ l.n) × (length l.flags ≡ length l.initial.flags) × ((f : ℕ → ℕ) (lo hi : ℕ) → l.reach.from ≡ f lo → l.reach.end ≡ reach_end l.reach.from hi → raise_all (met_parts f lo hi (pieces_at l.words (2 * l.j) (l.n - l.j))) l.flags ≡ raise_all (met_parts f lo hi (pieces_at l.words (2 * l.i) (l.n - l.i))) l.initial.flags)
