use Rattle.check_values.proofs.BinLaws.{defss}
use Rattle.check_values.proofs.bins.has_default.Goals as goal

pub returns-then-default_at : goal.returns-then-default_at
returns-then-default_at c = search defss

pub loop-k-preserved : goal.loop-k-preserved
loop-k-preserved c = search defss

pub returns : goal.returns
returns c = search defss
