use Rattle.model.specs.Format.{u32}
use borrow.Author.Rules.{rules}
use Rattle.words.proofs.bytes.read4.Goals as goal

pub returns : goal.returns
unfolding u32
returns c = search rules
