use Rattle.values.proofs.Laws.{guards}
use Rattle.values.proofs.fields.guard_true.Goals as goal

pub returns-then-g-eq255 : goal.returns-then-g-eq255
returns-then-g-eq255 c = search guards

pub returns-else-g-eq255 : goal.returns-else-g-eq255
returns-else-g-eq255 c = search guards
