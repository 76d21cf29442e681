use mathlib.Core.Path.{◌∙◌}
use Rattle.table.proofs.MeasureLaws.{section-whole, section-refused}
use Rattle.table.proofs.section.Goals as goal

pub returns-in-Ok : goal.returns-in-Ok
returns-in-Ok c = c.section_bytes.ensures ∙ section-whole _ _ c.in-Ok.ensures _

pub returns-in-Err : goal.returns-in-Err
returns-in-Err c = section-refused _ _ c.in-Err.ensures _
