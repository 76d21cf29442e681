-- What the check of a table says, and the answer to measuring it.
-- Assumes nothing.
use Rattle.std.specs.Prelude.{ℕ, ◌+◌, ◌-◌, ◌≤◌, ◌≡◌, List, [], length, take, drop, Result, Ok, Err}
use Rattle.model.specs.Table.{Point, Table}
use Rattle.model.specs.Format.{Reader, ◌>>=◌, done, BinHead, read_range_section, read_transition_bins, read_crosses, Outcome, rejected, decoded, decode}
use Rattle.model.specs.Register as Model
use Rattle.words.specs.Verdicts.{Verdict, class_of, number_of, fault_at}
use Rattle.words.specs.declared.verdicts.Fault.{Fault}
use Rattle.reader.specs.Parts.{section_part}
use Rattle.reader.specs.declared.Part.{Part}
use Rattle.table.specs.declared.answer.Facts.{Facts}
use Rattle.table.specs.declared.answer.Measure.{Measure}

-- the outcome as a verdict: its fault, or the table's length
unfoldable pub outcome_verdict : ℕ → Outcome → Verdict
outcome_verdict size (rejected f) = Err (fault_at (class_of f.class) f.at)
outcome_verdict size (decoded t) = Ok size

unfoldable pub checked : List ℕ → Verdict
checked s = outcome_verdict (length s) (decode s)

-- the model's `read_table` from section 3 on
unfoldable pub after_bins : List ℕ → List Point → List BinHead → Reader Table
after_bins s ps heads = do
  bins ← read_range_section s ps heads
  ts ← read_transition_bins s ps
  cs ← read_crosses s ps heads
  done (record { points = ps; value_bins = bins; transition_bins = ts; crosses = cs })

-- what an accepted table counts, or the fault
abbrev pub facts_from : Outcome → Result Facts Fault
facts_from (rejected f) = Err (fault_at (class_of f.class) f.at)
facts_from (decoded t) = Ok (record { points = Model.point_total t; counters = Model.counter_total t; runs = Model.run_total t; illegals = Model.illegal_total t })

unfoldable pub facts_of : List ℕ → Result Facts Fault
facts_of s = facts_from (decode s)

-- what an accepted table counts, or the first fault
abbrev pub ExaminedOf : List ℕ → Result Facts Fault → Type 0
ExaminedOf s (Ok f) = (Ok (length s) ≡ checked s) × (Ok f ≡ facts_of s)
ExaminedOf s (Err f) = (Err f ≡ checked s) × (Err f ≡ facts_of s)

-- how much they can be
pub record Few (f : Facts) : Type 0 where
  pub points : f.points ≤ 16
  pub counters : f.counters ≤ 12416
  pub runs : f.runs ≤ 2048
  pub illegals : f.illegals ≤ 12416

-- the words of a register and of a report, or the fault: what the model's measure says, but the numbers
abbrev pub measure_from : Outcome → Result Measure Fault
measure_from (rejected f) = Err (fault_at (class_of f.class) f.at)
measure_from (decoded t) = Ok (record { words = Model.words_needed t; illegal_places = Model.illegal_total t })

unfoldable pub measure_of : List ℕ → Result Measure Fault
measure_of s = measure_from (decode s)

-- where a section's records begin: 0 for a refused table
abbrev pub start_of : Outcome → List ℕ → ℕ → ℕ
start_of (rejected f) s number = 0
start_of (decoded t) s number = (section_part s number).from

unfoldable pub section_start : List ℕ → ℕ → ℕ
section_start s number = start_of (decode s) s number

-- The place of a section: the bytes that stand there are the model's section, and they are within the table.
pub record Placed (s : List ℕ) (number : ℕ) (p : Part) : Type 0 where
  pub accepted : 0 ≡ (Model.measure s).number
  pub start : p.from ≡ section_start s number
  pub bytes : take (p.to - p.from) (drop p.from s) ≡ Model.section s number
  pub ordered : p.from ≤ p.to
  pub within : p.to ≤ length s

-- a refused table has none
pub record Placeless (s : List ℕ) (number : ℕ) (f : Fault) : Type 0 where
  pub refused : number_of f.class ≡ (Model.measure s).number
  pub start : 0 ≡ section_start s number
  pub bytes : [] ≡ Model.section s number

abbrev pub SectionAt : List ℕ → ℕ → Result Part Fault → Type 0
SectionAt s number (Ok p) = Placed s number p
SectionAt s number (Err f) = Placeless s number f
