use mathlib.Core.Path.{sym, subst}
use Rattle.refusals.proofs.Numbers.{handed}
use Rattle.batch.specs.Tested.{TestedAs, table, register}
use Rattle.batch.proofs.tested.Goals as goal

pub returns-in_err-f : goal.returns-in_err-f
returns-in_err-f c =
    let a = c.args in
    subst (TestedAs a.table.now a.register.now) (sym (handed _ _ c.from_residual.ensures)) (table _ c.in_err-f.ensures.value)

pub returns-in_err-test_register : goal.returns-in_err-test_register
returns-in_err-test_register c =
    let a = c.args in
    subst (TestedAs a.table.now a.register.now) (sym (handed _ _ c.from_residual-in_err-test_register.ensures)) (register _ c.in_ok-f.ensures.value _ c.in_err-test_register.ensures)

pub returns : goal.returns
returns c = record { told = c.in_ok-f.ensures.value; register = c.in_ok-test_register.ensures }
