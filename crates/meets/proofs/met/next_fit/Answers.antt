use mathlib.Core.Path.{refl, ap, ◌∙◌}
use Prim.Native.Nat.{ℕ, ◌+◌}
use native.Mathlib.Omega.{arith}
use Rattle.model.specs.Ranges.{pattern_from}
use Rattle.meets.proofs.SearchLaws.{next_inner, next_outer}
use Rattle.meets.proofs.met.next_fit.Goals as goal

pub returns-then-x-bits : goal.returns-then-x-bits
returns-then-x-bits c =
    let a = c.args in
    (next_inner a.bits a.mask a.x _ c.if-x-bits.true refl, omega arith)

pub returns : goal.returns
returns c =
    let a = c.args in
    (next_outer a.bits a.mask a.x _ c.if-x-bits.false (ap (λ (y : ℕ). 2147483648 + y) (c.next_pattern.ensures.0 ∙ ap (pattern_from 32 a.bits a.mask) c.saturating_sub.ensures)), omega arith)
