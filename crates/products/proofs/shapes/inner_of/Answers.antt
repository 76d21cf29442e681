use native.Mathlib.Omega.{arith}
use native.Mathlib.Nat.{mul-le-mul}
use lib.ListN.{length}
use lib.Seq.{length-take-le}
use mathlib.Core.Path.{◌≡◌}
use Prim.Native.Nat.{◌≤◌}
use Rattle.products.proofs.Sizes.{inner_is}
use borrow.Author.Rules.{rules}
use Rattle.products.proofs.shapes.inner_of.Goals as goal

pub overflow_mul-result : goal.overflow_mul-result
overflow_mul-result c = omega (arith, mul-le-mul c.parts_at-b.ensures.1 c.parts_at-c.ensures.1)

pub overflow_mul-result-2 : goal.overflow_mul-result-2
overflow_mul-result-2 c = omega (arith, mul-le-mul c.parts_at-a.ensures.1 (mul-le-mul c.parts_at-b.ensures.1 c.parts_at-c.ensures.1))

pub returns : goal.returns
returns c =
    let s = c.args.s in
    let four : length s.size ≡ 4 = search rules in
    let fit : s.count ≤ length s.size = omega arith in
    inner_is _ (omega (arith, length-take-le s.count s.size fit)) c.args.q _ _ _ c.parts_at-a.ensures.0 c.parts_at-b.ensures.0 c.parts_at-c.ensures.0
