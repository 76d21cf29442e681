-- `sequences::complete` meets its contract. Assumes nothing.
use mathlib.Core.Path.{◌≡◌}
use lib.Bits.{bit_or}
use lib.ListN.{take, drop}
use Rattle.model.specs.Lists.{or_all}
use Rattle.sequences.specs.Words.{complete_from}
use Rattle.sequences.proofs.complete.Given as goal

abbrev pub invariant-loop-j : goal.invariant-loop-j
invariant-loop-j l =
    bit_or l.out (or_all (drop l.j (take l.most (drop l.at l.words)))) ≡ complete_from l.least (take l.most (drop l.at l.words))
