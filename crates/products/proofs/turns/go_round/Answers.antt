use mathlib.Core.Path.{◌≡◌, refl, sym, ◌∙◌, subst}
use Prim.Native.Nat.{ℕ, ◌+◌, ◌%◌}
use native.Mathlib.Nat.{mod_self}
use native.Mathlib.Omega.{arith}
use Rattle.operators.specs.Operators.{Says}
use Rattle.products.specs.Bytes.{turn_of}
use Rattle.products.proofs.Rounds.{first-turn, whole-turns, turn_on}
use Rattle.products.proofs.turns.go_round.Goals as goal

pub loop-k-init : goal.loop-k-init
loop-k-init c =
    let a = c.args in
    (omega arith, omega arith, refl, λ h. mod_self a.turn, first-turn a.out.now a.turn)

pub loop-k-preserved : goal.loop-k-preserved
loop-k-preserved c =
    let l = c.loop-k in
    let a = c.args in
    let m = c.min-m.result in
    let e = c.min-m.ensures in
    let whole = l.invariant.3 (omega arith) in (
      omega arith,
      omega arith,
      c.copy_on.auto.out ∙ l.invariant.2,
      λ h. subst (λ (y : ℕ). (l.k + y) % a.turn ≡ 0) (sym (let z : m ≡ l.k = omega arith in z)) (whole-turns l.k a.turn whole),
      turn_on a.out.now a.turn l.k m (omega arith) whole l.out c.copy_on.new.out l.invariant.4 c.copy_on.ensures,
    )

pub returns : goal.returns
returns c =
    let l = c.loop-k in
    let a = c.args in
    let z : l.k ≡ a.n = omega arith in
    subst (λ (x : ℕ). Says x (turn_of a.out.now a.turn) l.out) z l.invariant.4
