use mathlib.Core.Path.{◌∙◌}
use Rattle.words.proofs.Laws.{handed}
use Rattle.check_tokens.specs.Tokens.{value_fields}
use Rattle.check_tokens.proofs.TokenLaws.{token-tests, fields_on}
use Rattle.check_tokens.proofs.tokens.token_rules.Goals as goal

pub returns-in_err-value_fields : goal.returns-in_err-value_fields
returns-in_err-value_fields c =
    handed _ _ c.from_residual-in_err-value_fields.ensures ∙ fields_on _ _ _ _ _ _ _ _ _ _ _ c.in_ok-name_fields.ensures (search token-tests)

pub returns : goal.returns
returns c = fields_on _ _ _ _ _ _ _ _ _ _ _ c.in_ok-name_fields.ensures (search token-tests)
