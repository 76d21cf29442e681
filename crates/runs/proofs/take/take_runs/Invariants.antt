-- `take::take_runs` meets its contract: the bins that are left, taken from the present places on, give the whole. Assumes nothing.
use Rattle.model.specs.Format.{table_of}
use Rattle.runs.proofs.Taking.{Binning}
use Rattle.runs.proofs.take.take_runs.Given as goal

abbrev pub invariant-loop-i : goal.invariant-loop-i
invariant-loop-i l =
    Binning (table_of l.t).transition_bins l.readings l.plan l.initial.place.words l.initial.register l.initial.lens l.i l.place.row l.place.words l.register l.lens
