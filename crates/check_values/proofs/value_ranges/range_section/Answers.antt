use mathlib.Core.Path.{◌∙◌}
use Rattle.model.specs.Format.{read_range_section}
use Rattle.words.proofs.Laws.{handed}
use Rattle.words.proofs.Chain.{chain, rooms}
use Rattle.check_values.proofs.value_ranges.range_section.Goals as goal

pub returns-in_err-start : goal.returns-in_err-start
unfolding read_range_section
returns-in_err-start c = handed _ _ c.from_residual.ensures ∙ search chain

pub ranges_fault-requires : goal.ranges_fault-requires
ranges_fault-requires c = search rooms

pub returns : goal.returns
unfolding read_range_section
returns c = search (chain, c.in_ok-start.ensures)
