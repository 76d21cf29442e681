use borrow.Author.Rules.{rules}
use Rattle.words.specs.Kinds.{byte_of}
use Rattle.limits.specs.Walks.{is_byte}
use Rattle.limits.proofs.WalkLaws.{walk-terms}
use Rattle.limits.proofs.kinds.count_kind.Goals as goal

pub returns : goal.returns
returns c =
    let a = c.args in
    let f = is_byte a.t.now (byte_of a.kind) in
    (walk-terms f a.size a.start a.n _ (c.sum_at.ensures.value f (λ at y h e. search rules)), search rules)
