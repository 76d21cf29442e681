use mathlib.Core.Path.{refl, ap, ◌∙◌}
use Prim.Native.Nat.{ℕ, ◌+◌, ◌-◌, ◌≤◌}
use native.Mathlib.Omega.{arith}
use Rattle.pieces.proofs.WordLaws.{product-most, high_inner, high_last}
use Rattle.pieces.proofs.cuts.cut_at.Goals as goal

pub overflow_mul-j : goal.overflow_mul-j
overflow_mul-j c = omega (arith, product-most _ _ _ _ c.requires.1 c.requires.0.most)

pub overflow_add-low : goal.overflow_add-low
overflow_add-low c = omega (arith, product-most _ _ _ _ c.requires.1 c.requires.0.most)

pub overflow_mul-j-then-j-c : goal.overflow_mul-j-then-j-c
overflow_mul-j-then-j-c c =
    let a = c.args in
    let h : a.j + 1 ≤ a.c.top = omega arith in
    omega (arith, product-most _ _ _ _ h c.requires.0.most)

pub overflow_add-next : goal.overflow_add-next
overflow_add-next c =
    let a = c.args in
    let h : a.j + 1 ≤ a.c.top = omega arith in
    omega (arith, product-most _ _ _ _ h c.requires.0.most)

pub returns-then-j-c : goal.returns-then-j-c
returns-then-j-c c =
    let a = c.args in
    let d = c.saturating_sub.ensures in
    let m = product-most _ _ _ _ c.requires.1 c.requires.0.most in
    let h : a.j + 1 ≤ a.c.top = omega arith in
    let most = product-most _ _ _ _ h c.requires.0.most in
    (ap (a.c.lo +◌) d, high_inner a.c.lo a.c.hi a.c.before a.c.share a.c.top a.j _ (omega arith) (c.saturating_sub-then-j-c-2.ensures ∙ ap (λ (x : ℕ). a.c.lo + x - 1) c.saturating_sub-then-j-c.ensures), refl, omega arith, omega arith, omega (arith, c.saturating_sub-then-j-c-2.ensures, c.saturating_sub-then-j-c.ensures, most))

pub returns : goal.returns
returns c =
    let a = c.args in
    let d = c.saturating_sub.ensures in
    let m = product-most _ _ _ _ c.requires.1 c.requires.0.most in
    (ap (a.c.lo +◌) d, high_last a.c.lo a.c.hi a.c.before a.c.share a.c.top a.j (omega arith), refl, omega arith, omega arith, omega arith)
