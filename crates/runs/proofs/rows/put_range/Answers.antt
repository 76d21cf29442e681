-- `rows::put_range` meets its contract. Assumes nothing.
use mathlib.Core.Path.{◌≡◌, refl, ap, ◌∙◌}
use mathlib.Core.List.{List}
use Prim.Native.Nat.{ℕ}
use lib.ListN.{length}
use Rattle.arrays.specs.Put.{put}
use Rattle.arrays.proofs.PutLaws.{part-back}
use Rattle.runs.proofs.RowLaws.{span_written, pattern_written}
use Rattle.runs.proofs.rows.put_range.Goals as goal
use Rattle.runs.proofs.rows.put_range.Goals.{then-kind-eq0, else-kind-eq0}

pub returns : goal.returns
returns c =
    let a = c.args in
    let k = c.byte-kind in
    let lo = c.read8-a in
    let hi = c.read8-b in
    let new = c.copy_from_slice.new.self in
    let back : (xs : List ℕ) → new ≡ xs → length xs ≡ 4 → _ = λ xs e n. part-back a.at 4 a.plan.now new (ap length e ∙ n) ∙ ap (λ (ys : List ℕ). put a.at ys a.plan.now) e in
    elim c.if-kind-eq0.branch [
      | then-kind-eq0 w ↦ span_written a.t.now a.p a.bit k.result lo.result hi.result k.ensures lo.ensures hi.ensures a.at a.plan.now _
          w.value_at.result w.value_at-then-kind-eq0.result w.if-kind-eq0.true w.value_at.ensures w.value_at-then-kind-eq0.ensures (back _ (c.copy_from_slice.ensures.after ∙ w.row-is) refl)
      | else-kind-eq0 w ↦ pattern_written a.t.now a.p a.bit k.result lo.result hi.result k.ensures lo.ensures hi.ensures a.at a.plan.now _
          w.if-kind-eq0.false (back _ (c.copy_from_slice.ensures.after ∙ w.row-is) refl)
    ]
