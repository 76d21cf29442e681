-- A count as the model's answer.
-- Assumes nothing.
use Rattle.std.specs.Prelude.{ℕ, Result, Ok, Err}
use Rattle.model.specs.Register.{Answer, counted}
use Rattle.refusals.specs.declared.refusal.Refusal.{Refusal}

-- a refused question's is 0
abbrev pub counted_in : Result ℕ Refusal → Answer
counted_in (Ok n) = counted n
counted_in (Err r) = counted 0
