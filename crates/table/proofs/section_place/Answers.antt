use mathlib.Core.Path.{sym, subst}
use Rattle.words.proofs.Laws.{handed}
use Rattle.table.specs.Check.{SectionAt}
use Rattle.table.proofs.MeasureLaws.{placed-whole, placed-refused}
use Rattle.table.proofs.section_place.Goals as goal

pub returns-in_err-check : goal.returns-in_err-check
returns-in_err-check c = subst (SectionAt c.args.table.now c.args.number) (sym (handed _ _ c.from_residual.ensures)) (placed-refused _ _ c.in_err-check.ensures _)

pub returns : goal.returns
returns c = placed-whole _ _ c.in_ok-check.ensures _ _ c.section_part.ensures
