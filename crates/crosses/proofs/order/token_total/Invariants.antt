use mathlib.Core.Path.{◌≡◌}
use Prim.Native.Nat.{◌+◌, ◌*◌, ◌≤◌}
use Rattle.model.specs.Raw.{token_total}
use Rattle.crosses.proofs.Laws.{tokens_from}
use Rattle.crosses.proofs.order.token_total.Given as goal

abbrev pub invariant-loop-i : goal.invariant-loop-i
invariant-loop-i l = (l.i ≤ l.n) × (l.sum ≤ 255 * l.i) × (token_total l.t l.b l.n ≡ l.sum + tokens_from l.t l.b l.n l.i)
