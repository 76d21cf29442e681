use mathlib.Core.Path.{◌≡◌, ◌∙◌}
use native.Mathlib.Omega.{arith}
use lib.ListN.{length}
use Rattle.products.proofs.Sizes.{size_in, size_out}
use borrow.Author.Rules.{rules}
use Rattle.products.proofs.shapes.parts_at.Goals as goal

pub returns-then-q-count : goal.returns-then-q-count
returns-then-q-count c =
    let a = c.args in
    let four : length a.s.size ≡ 4 = search rules in
    (c.element-x.ensures ∙ size_in a.s.count a.s.size (omega arith) a.q (omega arith), omega arith)

pub returns-else-q-count : goal.returns-else-q-count
returns-else-q-count c =
    let a = c.args in
    let four : length a.s.size ≡ 4 = search rules in
    (size_out a.s.count a.s.size (omega arith) a.q (omega arith), omega arith)
