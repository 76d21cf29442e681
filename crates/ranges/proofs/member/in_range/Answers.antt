use Rattle.ranges.proofs.MemberLaws.{range}
use Rattle.ranges.proofs.member.in_range.Goals as goal

pub returns-then-kind-eq0 : goal.returns-then-kind-eq0
returns-then-kind-eq0 c = search range

pub returns-else-kind-eq0 : goal.returns-else-kind-eq0
returns-else-kind-eq0 c = search range
