use native.Mathlib.Omega.{arith}
use Rattle.figures.proofs.Sums.{item_dropped, item-added, item-most}
use Rattle.figures.proofs.Group.with_item.Goals as goal

pub returns-then-total-eq0 : goal.returns-then-total-eq0
returns-then-total-eq0 c =
    let a = c.args in
    (item_dropped a.self a.weight a.total a.covered c.if-total-eq0.true, omega arith, omega arith)

pub overflow_mul-result : goal.overflow_mul-result
overflow_mul-result c =
    let a = c.args in
    omega (arith, item-most a.weight a.total a.covered (omega arith))

pub overflow_add-result-2 : goal.overflow_add-result-2
overflow_add-result-2 c =
    let a = c.args in
    omega (arith, item-most a.weight a.total a.covered (omega arith))

pub returns : goal.returns
returns c =
    let a = c.args in (
      item-added a.self a.weight a.total a.covered (omega arith),
      omega arith,
      omega (arith, item-most a.weight a.total a.covered (omega arith)),
    )
