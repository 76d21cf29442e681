use native.Mathlib.Omega.{arith}
use borrow.Author.Tests.{eq-eqb, ne_eqb}
use Rattle.figures.proofs.Sums.{mean-most}
use Rattle.figures.proofs.Group.figure.Goals as goal

pub returns-then-weights-eq0 : goal.returns-then-weights-eq0
returns-then-weights-eq0 c = simp (eq-eqb _ _ c.if-weights-eq0.true)

pub overflow_cast-result : goal.overflow_cast-result
overflow_cast-result c = omega (arith, mean-most c.args.self (omega arith))

pub returns : goal.returns
returns c = simp (ne_eqb _ _ c.if-weights-eq0.false)
