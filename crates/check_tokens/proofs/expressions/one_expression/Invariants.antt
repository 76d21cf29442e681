use Prim.Native.Nat.{◌≤◌, ◌+◌, ◌*◌, ◌-◌}
use mathlib.Core.Path.{◌≡◌}
use Rattle.model.specs.Format.{token_record, expressions}
use Rattle.model.specs.Raw.{rows}
use Rattle.check_tokens.specs.Tokens.{found}
use Rattle.check_tokens.proofs.expressions.one_expression.Given as goal

abbrev pub invariant-loop-i : goal.invariant-loop-i
invariant-loop-i l = (l.i ≤ l.n) × (l.at ≡ l.start + 20 * l.i) × (l.wanted ≤ l.i + 1) × (found 1 (expressions (rows (token_record l.t) 20 l.start l.n)) ≡ found l.wanted (expressions (rows (token_record l.t) 20 l.at (l.n - l.i))))
