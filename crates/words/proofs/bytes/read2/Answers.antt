use Rattle.model.specs.Format.{u16}
use borrow.Author.Rules.{rules}
use Rattle.words.proofs.bytes.read2.Goals as goal

pub returns : goal.returns
unfolding u16
returns c = search rules
