-- The figures that the code answers, as the model's answers.
-- Assumes nothing.
use Rattle.std.specs.Prelude.{ℕ, Option, Some, None, Result, Ok, Err}
use Rattle.std.proofs.Math.Option.{none, some}
use Rattle.model.specs.Register.{Answer, percent, millionths}
use Rattle.figures.specs.declared.Figure.{Figure}
use Rattle.figures.specs.declared.Figure.TheVariants.{Percent, Nothing}
use Rattle.refusals.specs.declared.refusal.Refusal.{Refusal}

abbrev pub item_answer : Figure → Answer
item_answer (Percent p) = percent (some p)
item_answer Nothing = percent none

abbrev pub group_answer : Option ℕ → Answer
group_answer (Some m) = millionths (some m)
group_answer None = millionths none

-- a refused question has no figure
abbrev pub item_in : Result Figure Refusal → Answer
item_in (Ok f) = item_answer f
item_in (Err r) = percent none

abbrev pub group_in : Result (Option ℕ) Refusal → Answer
group_in (Ok f) = group_answer f
group_in (Err r) = millionths none
