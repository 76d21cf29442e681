use mathlib.Core.Path.{◌∙◌}
use Rattle.words.proofs.Laws.{handed}
use Rattle.check_values.proofs.BinLaws.{headss}
use Rattle.check_values.proofs.bins.bins_fault.Goals as goal

pub loop-i-init : goal.loop-i-init
loop-i-init c = search headss

pub returns-in_err-bin_fault : goal.returns-in_err-bin_fault
returns-in_err-bin_fault c = handed _ _ c.from_residual.ensures ∙ search headss

pub loop-i-preserved : goal.loop-i-preserved
loop-i-preserved c = search headss

pub returns : goal.returns
returns c = search headss
