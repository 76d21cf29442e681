use mathlib.Core.Path.{refl, ◌∙◌}
use Rattle.words.proofs.Laws.{handed, passed}
use Rattle.check_tokens.specs.Tokens.{name_fields}
use Rattle.check_tokens.proofs.TokenLaws.{token-tests, name_passing}
use Rattle.check_tokens.proofs.tokens.name_fields.Goals as goal

pub returns-then-known-placed : goal.returns-then-known-placed
returns-then-known-placed c = let a = c.args in passed _ _ _ _ refl c.if-known-placed.true (rw c.pick-placed.ensures (name_passing a.parts a.token.op a.token.position a.token.bin a.at))

pub returns-in_err-test : goal.returns-in_err-test
unfolding name_fields
returns-in_err-test c = handed _ _ c.from_residual.ensures ∙ search token-tests
