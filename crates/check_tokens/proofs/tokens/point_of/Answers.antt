use Rattle.check_tokens.proofs.TokenLaws.{positions}
use Rattle.check_tokens.proofs.tokens.point_of.Goals as goal

pub returns-then-position-n : goal.returns-then-position-n
returns-then-position-n c = search positions

pub returns-else-position-n : goal.returns-else-position-n
returns-else-position-n c = search positions
