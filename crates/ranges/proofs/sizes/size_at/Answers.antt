use Rattle.ranges.proofs.SizeLaws.{range_size}
use Rattle.ranges.proofs.sizes.size_at.Goals as goal

pub returns-then-kind-eq0 : goal.returns-then-kind-eq0
returns-then-kind-eq0 c = search range_size

pub returns : goal.returns
returns c = search range_size
