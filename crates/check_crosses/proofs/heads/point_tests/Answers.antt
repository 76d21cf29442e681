use Rattle.std.proofs.Common.{rules, ◌∙◌}
use Rattle.words.proofs.Laws.{handed}
use Rattle.check_crosses.proofs.CrossLaws.{points-stop, points-on, points-done}
use Rattle.check_crosses.proofs.heads.point_tests.Goals as goal

pub returns-in_err-point_test : goal.returns-in_err-point_test
returns-in_err-point_test c = handed _ _ c.from_residual.ensures ∙ search (rules, points-stop)

pub loop-i-preserved : goal.loop-i-preserved
loop-i-preserved c = search (rules, points-on)

pub returns : goal.returns
returns c = search (rules, points-done)
