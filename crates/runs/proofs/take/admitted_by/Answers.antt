-- `take::admitted_by` meets its contract. Assumes nothing.
use Rattle.arrays.specs.Flat.{reading_from}
use Rattle.arrays.proofs.FlatLaws.{unread}
use Rattle.runs.proofs.Admitted.{none_admitted}
use Rattle.runs.proofs.take.admitted_by.Goals as goal

pub returns-in_default : goal.returns-in_default
returns-in_default c = λ ss e. none_admitted (reading_from c.args.reading) ss (unread c.args.reading c.in_default.not-Known)
