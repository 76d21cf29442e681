-- `tallies::tally_all` meets its contract. Assumes nothing.
use mathlib.Core.Path.{◌≡◌}
use Prim.Native.Nat.{◌≤◌}
use lib.ListN.{length}
use Rattle.tallies.proofs.TallyLaws.{AllAhead}
use Rattle.tallies.proofs.tally_all.Given as goal

abbrev pub invariant-loop-i : goal.invariant-loop-i
invariant-loop-i l = (l.i ≤ length l.items) × (length l.tallies ≡ 24) × AllAhead l.items l.flags l.counts l.leasts l.i l.tallies
