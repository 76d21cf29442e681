use native.Mathlib.Omega.{arith}
use Rattle.refusals.proofs.RefusalLaws.{too_short, register-passes, not-consistent}
use Rattle.refusals.proofs.test_register.Goals as goal

pub returns-then-register-n : goal.returns-then-register-n
returns-then-register-n c = too_short _ _ (omega arith)

pub returns-then-not-consistent : goal.returns-then-not-consistent
returns-then-not-consistent c = not-consistent _ _ (omega arith) _ c.consistent.ensures c.if-not-consistent.true

pub returns : goal.returns
returns c = register-passes _ _ (omega arith) _ c.consistent.ensures c.if-not-consistent.false
