use native.Mathlib.Omega.{arith}
use Rattle.refusals.proofs.CallLaws.{reset_short, reset_passes}
use Rattle.refusals.proofs.test_reset.Goals as goal

pub returns-then-register-words : goal.returns-then-register-words
returns-then-register-words c = reset_short _ _ (omega arith)

pub returns : goal.returns
returns c = reset_passes _ _ (omega arith)
