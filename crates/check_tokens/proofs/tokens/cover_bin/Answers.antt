use Rattle.std.proofs.Common.{rules}
use Rattle.check_tokens.proofs.TokenLaws.{cover-bin}
use Rattle.check_tokens.proofs.tokens.cover_bin.Goals as goal

pub returns : goal.returns
returns c = rw (cover-bin, c.byte-point.ensures, ← c.byte.ensures) (search rules)
