use mathlib.Core.Path.{refl, ◌∙◌}
use borrow.Author.Rules.{rules}
use native.Mathlib.Omega.{arith}
use Rattle.model.specs.Format.{byte}
use Rattle.words.specs.Sums.{sum_from, here}
use Rattle.words.proofs.ByteSums.{byte_field₀}
use Rattle.words.proofs.sums.sum_bytes.Goals as goal

pub returns : goal.returns
unfolding sum_from
returns c =
    let a = c.args in
    let s = a.t.now in
    let whole = c.sum_at.ensures.value (byte s) (λ at y h e. search rules) in
    (whole ∙ omega (arith, byte_field₀ s (byte s) here a.size (λ at. refl) a.start a.n), search rules)
