use mathlib.Core.Path.{ap₂, ◌∙◌}
use mathlib.Core.List.{[], ◌∷◌}
use Prim.Native.Nat.{ℕ, ◌+◌}
use Rattle.arrays.specs.Put.{put}
use Rattle.parts.proofs.settled.put_span.Goals as goal

pub returns : goal.returns
returns c =
    let a = c.args in
    let lo = c.low_end.ensures.0 in
    let hi = c.high_end.ensures.0 in
    c.put_row.ensures
    ∙ ap₂ (λ (x y : ℕ). put a.c (0 ∷ (a.low + x) ∷ (a.low + y) ∷ a.before ∷ a.d.first ∷ a.d.last ∷ a.d.share ∷ []) a.out.now) lo hi
