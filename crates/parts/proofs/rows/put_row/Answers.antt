use mathlib.Core.Path.{◌≡◌, refl, sym, ap, ◌∙◌}
use mathlib.Core.List.{[], ◌∷◌}
use Prim.Native.Nat.{ℕ, ◌+◌, ◌-◌}
use borrow.Rule.Slice.PartMut.{put_mid}
use Rattle.parts.specs.declared.rows.Range as code
use Rattle.parts.specs.Words.{row_words, range_of}
use Rattle.parts.proofs.BuildLaws.{put_seven}
use Rattle.parts.proofs.rows.put_row.Goals as goal
use Rattle.parts.proofs.rows.put_row.Goals.{in-Span, in-Pattern}

pub returns : goal.returns
returns c =
    let a = c.args in
    let d = a.d in
    let words = λ (r : code.Range). row_words d.first d.last d.share a.before (range_of r) in
    let same = λ (k : ℕ × ℕ × ℕ). k.0 ∷ k.1 ∷ k.2 ∷ a.before ∷ d.first ∷ d.last ∷ d.share ∷ [] in
    let row : same c.match-r.kind ≡ words a.r = elim c.match-r.branch [ in-Span w ↦ ap same w.kind-is ∙ ap words (sym w.in-Span.is) | in-Pattern w ↦ ap same w.kind-is ∙ ap words (sym w.in-Pattern.is) ] in
    put_seven a.at (words a.r) a.out.now _ refl (ap (put_mid a.at (a.at + 7 - a.at) a.out.now) (c.copy_from_slice.ensures.after ∙ row))
