use Rattle.model.specs.Format.{u64}
use borrow.Author.Rules.{rules}
use Rattle.words.proofs.bytes.read8.Goals as goal

pub returns : goal.returns
unfolding u64
returns c = search rules
