use mathlib.Core.Path.{ap, sym, ◌∙◌}
use mathlib.Core.Bool.{Bool, cond}
use native.Mathlib.Omega.{arith}
use borrow.Author.Tests.{eq-eqb, ne_eqb}
use Rattle.operators.specs.Operators.{Says, and_of, or_of, join_of}
use Rattle.operators.proofs.join.Goals as goal

pub returns-then-op-eq4 : goal.returns-then-op-eq4
unfolding Says join_of
returns-then-op-eq4 c =
    let a = c.args in
    λ x h. c.and_into.ensures x h ∙ sym (ap (λ (b : Bool). cond b (and_of a.n a.stack.now x) (or_of a.n a.stack.now x)) (eq-eqb a.op 4 (omega arith)))

pub returns-else-op-eq4 : goal.returns-else-op-eq4
unfolding Says join_of
returns-else-op-eq4 c =
    let a = c.args in
    λ x h. c.or_into.ensures x h ∙ sym (ap (λ (b : Bool). cond b (and_of a.n a.stack.now x) (or_of a.n a.stack.now x)) (ne_eqb a.op 4 (λ z. omega arith)))
