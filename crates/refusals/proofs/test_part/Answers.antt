use Rattle.std.proofs.Common.{subst, sym, ◌≡◌}
use Rattle.refusals.proofs.Numbers.{handed}
use Rattle.refusals.proofs.RefusalLaws.{part-stop, part-passes, no_part}
use Rattle.refusals.specs.Refusals.{PartRefusal}
use Rattle.refusals.proofs.test_part.Goals as goal

pub returns-in_err-test_register : goal.returns-in_err-test_register
returns-in_err-test_register c =
    let a = c.args in
    subst (PartRefusal a.f a.register.now a.i a.n) (sym (handed _ _ c.from_residual.ensures)) (part-stop _ _ _ _ _ c.in_err-test_register.ensures)

pub returns-then-i-n : goal.returns-then-i-n
returns-then-i-n c = part-passes _ _ _ _ c.in_ok-test_register.ensures c.if-i-n.true

pub returns-else-i-n : goal.returns-else-i-n
returns-else-i-n c = no_part _ _ _ _ c.in_ok-test_register.ensures c.if-i-n.false
