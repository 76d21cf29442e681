-- What a C caller reads of an answer is the model's.
-- Assumes nothing.
use Rattle.std.proofs.Common.{◌≡◌, ℕ, refl, Result, Ok, Err, Option, Some, None}
use Rattle.std.specs.Result.{result_unwrap_or}
use Rattle.figures.specs.Figures.{present_of, percent_of}
use Rattle.figures.specs.declared.Figure.{Figure}
use Rattle.figures.specs.declared.Figure.TheVariants.{Percent, Nothing}
use Rattle.figure_calls.specs.Answers.{item_in, group_in}
use Rattle.register.specs.Answers.{counted_in}
use Rattle.refusals.specs.declared.refusal.Refusal.{Refusal}
use Rattle.fluviquen.specs.Answers.{count_in, present_in, percent_in, millionths_in}

pub count-told : (r : Result ℕ Refusal) → result_unwrap_or r 0 ≡ count_in (counted_in r)
count-told (Ok n) = refl
count-told (Err x) = refl

pub item_present : (r : Result Figure Refusal) → present_of (result_unwrap_or r Nothing) ≡ present_in (item_in r)
item_present (Ok (Percent p)) = refl
item_present (Ok Nothing) = refl
item_present (Err x) = refl

pub item-percent : (r : Result Figure Refusal) → percent_of (result_unwrap_or r Nothing) ≡ percent_in (item_in r)
item-percent (Ok (Percent p)) = refl
item-percent (Ok Nothing) = refl
item-percent (Err x) = refl
