-- `take::take_sequence` meets its contract. Assumes nothing.
use mathlib.Core.Path.{ap, ◌∙◌}
use Rattle.model.specs.Sampling.{matched_lengths}
use Rattle.runs.proofs.take.take_sequence.Goals as goal

pub returns : goal.returns
returns c =
    let w = c.next_run.ensures in
    λ ss e f. (w ss e f, c.matched_lengths.ensures ss e ∙ ap (matched_lengths ss) (w ss e f))
