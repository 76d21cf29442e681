use Rattle.words.proofs.Chain.{whens}
use Rattle.ranges.proofs.next.next_in_span.Goals as goal

pub returns-then-x-hi : goal.returns-then-x-hi
returns-then-x-hi c = search whens

pub returns-else-x-hi : goal.returns-else-x-hi
returns-else-x-hi c = search whens
