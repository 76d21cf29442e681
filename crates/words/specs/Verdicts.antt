-- The model's faults as the code's, and what a reader says when what it read is forgotten.
-- Assumes nothing.
use Rattle.std.specs.Prelude.{ℕ, Bool, cond, List, [], ◌∷◌, Result, Ok, Err}
use Rattle.model.specs.Format.{Read, refused, got, Test}
use Rattle.model.specs.Format as model
use Rattle.words.specs.declared.verdicts.FaultClass.{FaultClass}
use Rattle.words.specs.declared.verdicts.FaultClass.TheVariants.{TooLong, Cut, Count, Field, Value, Unused, Disagreement, Leftover, Limits}
use Rattle.words.specs.declared.verdicts.Fault.{Fault}

-- the code's name of a class
abbrev pub class_of : model.FaultClass → FaultClass
class_of model.too_long = TooLong
class_of model.cut = Cut
class_of model.count = Count
class_of model.field = Field
class_of model.value = Value
class_of model.unused = Unused
class_of model.disagreement = Disagreement
class_of model.leftover = Leftover
class_of model.limits = Limits

-- its refusal number: that of the model's class
abbrev pub number_of : FaultClass → ℕ
number_of TooLong = model.number_of model.too_long
number_of Cut = model.number_of model.cut
number_of Count = model.number_of model.count
number_of Field = model.number_of model.field
number_of Value = model.number_of model.value
number_of Unused = model.number_of model.unused
number_of Disagreement = model.number_of model.disagreement
number_of Leftover = model.number_of model.leftover
number_of Limits = model.number_of model.limits

abbrev pub Verdict : Type 0
Verdict = Result ℕ Fault

abbrev pub fault_at : FaultClass → ℕ → Fault
fault_at class at = record { class = class; at = at }

-- the fault, or the place where reading goes on
unfoldable pub verdict_of : {A : Type 0} → Read A → Verdict
verdict_of (refused f) = Err (fault_at (class_of f.class) f.at)
verdict_of (got a at) = Ok at

-- what is said after a test
abbrev pub unless_fault : {A : Type 0} → Bool → FaultClass → ℕ → Result A Fault → Result A Fault
unless_fault ok class at rest = cond ok rest (Err (fault_at class at))

-- all tests passed
abbrev pub pass : Result Unit Fault
pass = Ok tt

-- one test by itself
abbrev pub tested : Bool → FaultClass → ℕ → Result Unit Fault
tested ok class at = unless_fault ok class at pass

-- the first test that fails, else what comes after them
unfoldable pub verdict_in : {A : Type 0} → List Test → Result A Fault → Result A Fault
verdict_in [] rest = rest
verdict_in ((passes, class, at) ∷ tests) rest = unless_fault passes (class_of class) at (verdict_in tests rest)
