use Rattle.std.proofs.Common.{arith, rules, ◌∙◌}
use Rattle.model.specs.Format.{read_token}
use Rattle.words.proofs.Laws.{record_whole, tests_stop, tests_on, handed}
use Rattle.check_tokens.proofs.TokenLaws.{token_tests_lem, point_below_lem}
use Rattle.check_tokens.proofs.tokens.token_fault.Goals as goal

pub overflow_mul-p : goal.overflow_mul-p
overflow_mul-p c = omega (arith, point_below_lem _ _ _ _ _ c.requires.all_wide.1 c.point_of-p.ensures)

pub overflow_add-points : goal.overflow_add-points
overflow_add-points c = omega (arith, point_below_lem _ _ _ _ _ c.requires.all_wide.1 c.point_of-p.ensures)

pub token_rules-requires : goal.token_rules-requires
token_rules-requires c = let h = point_below_lem _ _ _ _ _ c.requires.all_wide.1 c.point_of-p.ensures in (search rules, omega arith, search rules, c.requires.all_wide.0 _ h)

pub returns-in_err-token_rules : goal.returns-in_err-token_rules
unfolding read_token
returns-in_err-token_rules c =
    handed _ _ c.from_residual-in_err-token_rules.ensures
    ∙ record_whole _ _ _ _ _ _ (search rules) (tests_stop _ _ _ (rw (token_tests_lem _ _ _ _ _ _ _ c.requires.all_wide.1, c.in_err-token_rules.ensures, c.point_of-p.ensures, c.token_at-token.ensures, c.byte-parts.ensures)))

pub returns : goal.returns
unfolding read_token
returns c = record_whole _ _ _ _ _ _ (search rules) (tests_on _ _ _ (c.in_ok-token_rules.ensures ∙ rw (token_tests_lem _ _ _ _ _ _ _ c.requires.all_wide.1, c.point_of-p.ensures, c.token_at-token.ensures, c.byte-parts.ensures)) (search rules))
