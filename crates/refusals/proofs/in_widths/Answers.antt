use mathlib.Core.Path.{sym, ◌∙◌}
use native.Mathlib.Omega.{arith}
use native.Mathlib.Nat.{sub-zero}
use Rattle.refusals.specs.Refusals.{in_widths_at}
use Rattle.refusals.proofs.Loops.{numbers_done, numbers_stop, numbers_on}
use Rattle.refusals.proofs.in_widths.Goals as goal

pub loop-p-init : goal.loop-p-init
unfolding in_widths_at
loop-p-init c = (omega arith, rw sub-zero)

pub returns-then-not-point_in_width : goal.returns-then-not-point_in_width
returns-then-not-point_in_width c =
    let l = c.loop-p in
    numbers_stop _ _ _ _ l.invariant.1 (omega arith) (sym c.point_in_width.ensures ∙ c.if-not-point_in_width.true)

pub loop-p-preserved : goal.loop-p-preserved
loop-p-preserved c =
    let l = c.loop-p in
    (omega arith, numbers_on _ _ _ _ l.invariant.1 (omega arith) (sym c.point_in_width.ensures ∙ c.if-not-point_in_width.false))

pub returns : goal.returns
returns c = numbers_done _ _ _ _ c.loop-p.invariant.1 (omega arith)
