use Rattle.std.proofs.Common.{eq-eqb, refl}
use borrow.Author.Tests.{ne_eqb}
use Rattle.words.proofs.Laws.{passing, passed}
use Rattle.check_tokens.specs.Tokens.{value_fields}
use Rattle.check_tokens.proofs.TokenLaws.{values-typed}
use Rattle.check_tokens.proofs.tokens.value_fields.Goals as goal

pub returns-then-token-eq2 : goal.returns-then-token-eq2
unfolding value_fields
returns-then-token-eq2 c = rw (eq-eqb _ 2 c.if-token-eq2.true, values-typed, c.value_tests.ensures, c.type_at.ensures.signed, c.type_at.ensures.width)

pub returns-then-no_lo-no_hi : goal.returns-then-no_lo-no_hi
unfolding value_fields passing
returns-then-no_lo-no_hi c = rw (ne_eqb _ 2 c.if-token-eq2.false) (passed _ _ _ _ refl c.if-no_lo-no_hi.true refl)
