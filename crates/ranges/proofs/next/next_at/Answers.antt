use Rattle.ranges.proofs.NextLaws.{nexts}
use Rattle.ranges.proofs.next.next_at.Goals as goal

pub returns-then-kind-eq0 : goal.returns-then-kind-eq0
returns-then-kind-eq0 c = search nexts

pub returns : goal.returns
returns c = search nexts
