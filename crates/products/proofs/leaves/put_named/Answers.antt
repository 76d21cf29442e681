use mathlib.Core.Path.{◌≡◌, ap, ap₂, ◌∙◌}
use mathlib.Core.List.{map}
use Prim.Native.Nat.{ℕ, ◌+◌, ◌-◌}
use native.Mathlib.Omega.{arith}
use native.Mathlib.Nat.{add-zero}
use lib.Dec.{eqb}
use Rattle.model.specs.Lists.{up_from, as_bit}
use Rattle.arrays.specs.Put.{put}
use Rattle.arrays.proofs.Written.{fill-turn, fill_end}
use Rattle.products.specs.Tokens.{named_bit, named_from}
use Rattle.products.proofs.leaves.put_named.Goals as goal

pub loop-i-init : goal.loop-i-init
unfolding named_from
loop-i-init c =
    let a = c.args in
    let z : a.n - 0 ≡ a.n = omega arith in
    (omega arith, ap₂ (λ (x y : ℕ). put x (map (named_bit a.lists.now a.b) (up_from y (a.n - 0))) a.leaves.now) (add-zero a.row) (add-zero a.from) ∙ ap (λ (m : ℕ). put a.row (map (named_bit a.lists.now a.b) (up_from a.from m)) a.leaves.now) z)

pub loop-i-preserved : goal.loop-i-preserved
loop-i-preserved c =
    let a = c.args in
    let l = c.loop-i in
    let e : a.row + (l.i + 1) ≡ a.row + l.i + 1 = omega arith in
    let f : a.from + (l.i + 1) ≡ a.from + l.i + 1 = omega arith in
    (omega arith, rw (e, f) (fill-turn (named_bit a.lists.now a.b) (a.row + l.i) (a.from + l.i) a.n l.i c.as_bit.result l.leaves _ l.invariant.1 (c.as_bit.ensures ∙ ap (λ (x : ℕ). as_bit (eqb x a.b)) c.element.ensures) c.loop-i-test.true (omega arith)))

pub returns : goal.returns
returns c =
    let a = c.args in
    let l = c.loop-i in
    fill_end (named_bit a.lists.now a.b) (a.row + l.i) (a.from + l.i) a.n l.i l.leaves _ l.invariant.1 c.loop-i-test.false
