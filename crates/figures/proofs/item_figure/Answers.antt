use mathlib.Core.Path.{ap, sym, ◌∙◌}
use Prim.Native.Nat.{◌*◌}
use native.Mathlib.Omega.{arith}
use lib.Ieee.{binary64}
use borrow.Author.Tests.{eq-eqb, ne_eqb}
use Rattle.model.specs.Figures.{figure_of}
use Rattle.figures.specs.declared.Figure.TheVariants.{Percent}
use Rattle.figures.proofs.Quotients.{div-whole, in_float_lem}
use Rattle.figures.proofs.item_figure.Goals as goal

pub returns-then-total-eq0 : goal.returns-then-total-eq0
unfolding figure_of
returns-then-total-eq0 c = simp (eq-eqb _ _ c.if-total-eq0.true)

pub int_to_float-result : goal.int_to_float-result
int_to_float-result c = in_float_lem _ (omega (arith, c.ranges.covered))

pub returns : goal.returns
unfolding figure_of
returns c =
    let a = c.args in
    let f = c.ranges in
    ap Percent (div-whole binary64 (100 * a.covered) a.total (omega arith) (omega arith) (omega arith))
    ∙ sym (simp (ne_eqb _ _ c.if-total-eq0.false))
