use Rattle.words.proofs.Laws.{sums}
use Rattle.check_values.proofs.value_ranges.owned_ranges.Goals as goal

pub loop-i-preserved : goal.loop-i-preserved
loop-i-preserved c = search sums

pub returns : goal.returns
returns c = search sums
