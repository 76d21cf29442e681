-- The refusal numbers of calls.
-- Assumes nothing.
use Rattle.std.specs.Prelude.{ℕ, Bool, cond, Result, Ok, Err}
use Rattle.words.specs.Verdicts as words
use Rattle.refusals.specs.declared.refusal.Refusal.{Refusal}
use Rattle.refusals.specs.declared.refusal.Refusal.TheVariants.{Table, Short, Inconsistent, Full, Stopped, Report, Length, Width, NoPart}

-- document 01's number; a table's is that of its fault
abbrev pub number_of : Refusal → ℕ
number_of (Table f) = words.number_of f.class
number_of Short = 7
number_of Inconsistent = 8
number_of Full = 9
number_of Stopped = 10
number_of Report = 11
number_of Length = 12
number_of Width = 13
number_of NoPart = 14

-- of an answer: 0 if it is accepted
abbrev pub number_in : {A : Type 0} → Result A Refusal → ℕ
number_in (Ok a) = 0
number_in (Err r) = number_of r

-- all tests passed
abbrev pub pass : Result Unit Refusal
pass = Ok tt

-- one test
abbrev pub tested : Bool → Refusal → Result Unit Refusal
tested ok refusal = cond ok pass (Err refusal)
