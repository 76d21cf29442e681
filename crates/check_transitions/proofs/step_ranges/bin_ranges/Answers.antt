use Rattle.check_transitions.proofs.StepRangeLaws.{bin_ranges}
use Rattle.check_transitions.proofs.step_ranges.bin_ranges.Goals as goal

pub returns : goal.returns
returns c = search bin_ranges
