use Rattle.std.proofs.Common.{rules, ◌∙◌}
use Rattle.model.specs.Format.{read_cross}
use Rattle.words.proofs.Laws.{records, record_whole, handed}
use Rattle.check_tokens.proofs.TokenLaws.{some_stop, some_on}
use Rattle.check_crosses.specs.Crosses.{point_tests, cross_end}
use Rattle.words.proofs.Laws.{test_on, tests_stop, tests_on}
use Rattle.check_crosses.proofs.heads.cross.Goals as goal

pub returns-in_err-point_tests : goal.returns-in_err-point_tests
unfolding read_cross point_tests
returns-in_err-point_tests c = handed _ _ c.from_residual-in_err-point_tests.ensures ∙ search (records, some_stop)

pub returns-in_err-cross_end : goal.returns-in_err-cross_end
unfolding read_cross point_tests cross_end
returns-in_err-cross_end c = handed _ _ c.from_residual-in_err-cross_end.ensures ∙ record_whole _ _ _ _ _ _ (search rules) (search (rules, test_on, some_on, tests_stop, c.in_err-cross_end.ensures))

pub returns : goal.returns
unfolding read_cross point_tests cross_end
returns c = search (records, some_on, tests_on, c.in_ok-cross_end.ensures) depth 8
