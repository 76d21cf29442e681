use mathlib.Core.Path.{◌∙◌}
use Rattle.model.specs.Format.{read_bin_section}
use Rattle.words.proofs.Laws.{handed}
use Rattle.words.proofs.Chain.{chain, rooms}
use Rattle.check_values.proofs.bins.bin_section.Goals as goal

pub returns-in_err-base : goal.returns-in_err-base
unfolding read_bin_section
returns-in_err-base c = handed _ _ c.from_residual.ensures ∙ search chain

pub bins_fault-requires : goal.bins_fault-requires
bins_fault-requires c = search rooms

pub returns : goal.returns
unfolding read_bin_section
returns c = search (chain, c.in_ok-base.ensures)
