-- Tokens in prefix order, evaluated as the code does: for any bytes at all.
-- Assumes nothing.
use Rattle.std.specs.Prelude.{ℕ, zero, suc, ◌+◌, ◌*◌, ◌-◌, Bool, false, not, ◌&&◌, ◌||◌, cond, List, ltb, eqb, get_or}
use Rattle.model.specs.Format.{byte}

-- what an expression says, and the token after it
pub record Answer : Type 0 where
  pub value : Bool
  pub next : ℕ

abbrev pub answer : Bool → ℕ → Answer
answer v n = record { value = v; next = n }

-- what the operator (3 not, 4 and, else or) makes of the expression after it, a, and the one after that, b
abbrev pub joined : ℕ → Answer → Answer → Answer
joined op a b =
    cond (eqb op 3) (answer (not a.value) a.next)
    (cond (eqb op 4) (answer (a.value && b.value) b.next) (answer (a.value || b.value) b.next))

-- The expression that begins at token i, with `left` tokens left; the first argument only bounds the depth, and `left` is enough
-- (`fuel` of proofs/EvaluatorLaws.antt). Ops 0, 1 and 2 are leaves.
unfoldable pub eval_at : ℕ → List ℕ → List ℕ → ℕ → ℕ → ℕ → Answer
eval_at zero s truth k left i = answer false i
eval_at (suc f) s truth k zero i = answer false i
eval_at (suc f) s truth k (suc l) i =
    let a = eval_at f s truth k l (i + 1) in
    let b = eval_at f s truth k (l - (a.next - (i + 1))) a.next in
    cond (ltb (byte s (k + 20 * i)) 3) (answer (eqb (get_or truth i 0) 1) (i + 1)) (joined (byte s (k + 20 * i)) a b)

-- the value of the n tokens from the byte k on
unfoldable pub value_of : List ℕ → List ℕ → ℕ → ℕ → Bool
value_of s truth k n = (eval_at n s truth k n 0).value
