use native.Mathlib.Omega.{arith}
use borrow.Author.Tests.{eq-eqb, ne_eqb}
use Rattle.found.proofs.place.Goals as goal

pub returns-then-kind-ne0 : goal.returns-then-kind-ne0
returns-then-kind-ne0 c = (rw (ne_eqb _ 0 c.if-kind-ne0.true), omega arith)

pub returns : goal.returns
returns c = (rw (eq-eqb _ 0 c.if-kind-ne0.false) c.saturating_sub.ensures, omega arith)
