use mathlib.Core.Path.{◌≡◌, refl, ap, ◌∙◌, subst}
use Prim.Native.Nat.{ℕ, ◌*◌}
use native.Mathlib.Omega.{arith}
use lib.ListN.{length, replicate}
use Rattle.arrays.specs.Put.{put}
use Rattle.operators.specs.Operators.{Says}
use Rattle.products.specs.Bytes.{spread_bit}
use Rattle.products.proofs.Rows.{no_row, row_room, row_turn}
use Rattle.products.proofs.spread.spread.Goals as goal

pub loop-d-init : goal.loop-d-init
loop-d-init c =
    let a = c.args in
    (omega arith, refl, omega arith, no_row (spread_bit a.leaves.now a.row a.inner) a.inner a.out.now)

pub put_same-at-requires : goal.put_same-at-requires
put_same-at-requires c =
    let a = c.args in
    let l = c.loop-d in
    omega (arith, row_room a.size a.inner l.d (length l.out) (omega arith) (omega arith))

pub loop-d-preserved : goal.loop-d-preserved
loop-d-preserved c =
    let a = c.args in
    let l = c.loop-d in
    let wrote = c.put_same-at in
    let bit = c.as_bit in
    let b = c.byte-b in
    let room = row_room a.size a.inner l.d (length l.out) (omega arith) (omega arith) in
    let put-there = wrote.ensures.1 ∙ ap (λ (x : ℕ). put x (replicate a.inner bit.result) l.out) l.invariant.2 in (
      omega arith,
      wrote.auto.xs ∙ l.invariant.1,
      omega (arith, wrote.ensures.0, l.invariant.2),
      row_turn a.leaves.now a.row a.inner l.d b.result bit.result b.ensures bit.ensures l.out wrote.new.xs room put-there l.invariant.3,
    )

pub returns : goal.returns
returns c =
    let l = c.loop-d in
    let a = c.args in
    let z : l.d ≡ a.size = omega arith in
    subst (λ (x : ℕ). Says (x * a.inner) (spread_bit a.leaves.now a.row a.inner) l.out) z l.invariant.3
