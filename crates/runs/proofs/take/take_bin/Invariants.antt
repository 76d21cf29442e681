-- `take::take_bin` meets its contract: the sequences that are left, taken from the present places on, give the whole. Assumes nothing.
use Rattle.model.specs.Counters.{transition_bin_at}
use Rattle.model.specs.Format.{table_of}
use Rattle.arrays.specs.Flat.{reading_from}
use Rattle.runs.proofs.Taking.{Taking}
use Rattle.runs.proofs.take.take_bin.Given as goal

abbrev pub invariant-loop-i : goal.invariant-loop-i
invariant-loop-i l =
    Taking (transition_bin_at (table_of l.t) l.b).sequences (reading_from l.reading) l.plan l.initial.next.row l.initial.next.words l.initial.register l.i l.next.row l.next.words l.lengths l.register
