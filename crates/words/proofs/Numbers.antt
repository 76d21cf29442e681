-- The numbers of the classes of faults: none is 0, and each is the model's.
-- Assumes nothing.
use Rattle.std.proofs.Common.{◌≡◌, refl, arith}
use Rattle.model.specs.Format as model
use Rattle.words.specs.Verdicts.{class_of, number_of}
use Rattle.words.specs.declared.verdicts.FaultClass.{FaultClass}
use Rattle.words.specs.declared.verdicts.FaultClass.TheVariants.{TooLong, Cut, Count, Field, Value, Unused, Disagreement, Leftover, Limits}

pub never-zero : (class : FaultClass) → number_of class ≡ 0 → ⊥
never-zero TooLong e = omega arith
never-zero Cut e = omega arith
never-zero Count e = omega arith
never-zero Field e = omega arith
never-zero Value e = omega arith
never-zero Unused e = omega arith
never-zero Disagreement e = omega arith
never-zero Leftover e = omega arith
never-zero Limits e = omega arith

pub same_number : (class : model.FaultClass) → number_of (class_of class) ≡ model.number_of class
same_number model.too_long = refl
same_number model.cut = refl
same_number model.count = refl
same_number model.field = refl
same_number model.value = refl
same_number model.unused = refl
same_number model.disagreement = refl
same_number model.leftover = refl
same_number model.limits = refl
