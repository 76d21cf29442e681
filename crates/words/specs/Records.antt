-- Records in a row, each with its tests.
-- Assumes nothing.
use Rattle.std.specs.Prelude.{◌≡◌, ℕ, ◌+◌, ◌≤◌, List, length, Result}
use Rattle.model.specs.Format.{Test, read_record, times}
use Rattle.words.specs.Verdicts.{Verdict, verdict_of, verdict_in, pass}
use Rattle.words.specs.declared.verdicts.Fault.{Fault}

-- what is said of each record of `size` bytes that is whole is what these tests say
abbrev pub TestsOf : (ℕ → Result Unit Fault → Type 0) → List ℕ → ℕ → (ℕ → List Test) → Type 0
TestsOf said s size tests = (at : ℕ) (r : Result Unit Fault) → at + size ≤ length s → said at r → r ≡ verdict_in (tests at) pass

-- the verdict on n records of `size` bytes from `at` on, whatever tests are made of each
abbrev pub RecordsOf : (ℕ → Result Unit Fault → Type 0) → List ℕ → ℕ → ℕ → ℕ → Verdict → Type 0
RecordsOf said s size n at r = (tests : ℕ → List Test) → TestsOf said s size tests → r ≡ verdict_of (times n (read_record s size tests (λ place. place)) at)
