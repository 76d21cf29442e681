-- The calls whose tests were made for this table: what they ask of the table, and the model's answer in the code's types.
-- Assumes nothing.
use mathlib.Core.Path.{◌≡◌, refl, sym, ap, ap₂, ◌∙◌}
use mathlib.Core.Bool.{true}
use mathlib.Core.List.{List}
use mathlib.Core.Option.{Option, none, some}
use Prim.Native.Nat.{ℕ, ◌+◌, ◌≤◌}
use native.Mathlib.Omega.{arith}
use lib.ListN.{length}
use lib.Ieee.{Float}
use borrow.Author.Tests.{le-leb}
use Rattle.model.specs.Table.{Table}
use Rattle.model.specs.Figures.{item_count}
use Rattle.model.specs.Format.{decoded, decode, table_of}
use Rattle.model.specs.Register.{words_needed, long_enough, percent, millionths}
use Rattle.model.proofs.RawExact.{many_points, many_crosses}
use Rattle.layout.specs.Places.{layout_of}
use Rattle.layout.specs.declared.Layout.{Layout}
use Rattle.figures.specs.Figures.{figure_case, group_case}
use Rattle.table.specs.declared.answer.Facts.{Facts}
use Rattle.figure_calls.specs.Answers.{item_answer, group_answer}
use Rattle.refusals.specs.Refusals.{Describes, words_of}
use Rattle.refusals.proofs.RefusalLaws.{words_by}
use Rattle.refusals.proofs.CallLaws.{known-accepted}

pub known-long : (f : Facts) (t : Table) (w : List ℕ) → Describes f t → words_of f ≤ length w → long_enough t w ≡ true
known-long f t w d h = le-leb (words_needed t) (length w) (omega (arith, words_by f w t d))

-- ---- items

-- the points and the crosses, as the layout has them
pub items-known : (s : List ℕ) (l : Layout) → l ≡ layout_of s → decode s ≡ decoded (table_of s) → l.point_count + l.cross_count ≡ item_count (table_of s)
unfolding layout_of
items-known s l e d =
    let ok = known-accepted s d in
    ap (λ (x : Layout). x.point_count + x.cross_count) e ∙ ap₂ ◌+◌ (sym (many_points s ok)) (sym (many_crosses s ok))

-- ---- figures

pub item-answer : (o : Option Float) → item_answer (figure_case o) ≡ percent o
item-answer none = refl
item-answer (some p) = refl

pub group-answer : (o : Option ℕ) → group_answer (group_case o) ≡ millionths o
group-answer none = refl
group-answer (some m) = refl
