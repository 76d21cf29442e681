use Rattle.std.proofs.Common.{Result, Ok, Err, ◌≡◌}
use Rattle.words.specs.declared.verdicts.Fault.{Fault}
use Rattle.table.specs.declared.answer.Facts.{Facts}
use Rattle.table.specs.Check.{facts_of, ExaminedOf}
use Rattle.table.proofs.MeasureLaws.{few_of, examined-facts}
use Rattle.table.proofs.facts.Goals as goal

pub returns : goal.returns
returns c =
    let f = examined-facts _ _ c.examine.ensures in
    record { value = f; few = few_of _ _ f }
