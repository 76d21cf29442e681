-- What the code's parts say.
-- Assumes nothing.
use Rattle.std.specs.Prelude.{ℕ, ◌+◌, ◌-◌, ◌≤◌, ◌≡◌, cond, List, ◌++◌, leb, length, Result}
use Rattle.model.specs.Lists.{first_failed}
use Rattle.model.specs.Table.{Table}
use Rattle.model.specs.Format.{decode, decoded, table_of}
use Rattle.model.specs.Register.{counter_total, Effect, register_tests}
use Rattle.samples.specs.Prepared as Plans
use Rattle.refusals.specs.Numbers.{number_in}
use Rattle.refusals.specs.declared.refusal.Refusal.{Refusal}
use Rattle.turns.specs.declared.Taken.{Taken}
use Rattle.turns.specs.Batch.{Batch, in_turn}

-- the table with the bytes s is accepted, and the register w passes the tests 7 and 8
pub record Ready (s w : List ℕ) : Type 0 where
  pub known : decode s ≡ decoded (table_of s)
  pub passes : first_failed (register_tests (table_of s) w) ≡ 0

-- what is needed of the table is worked out, and there is room for the places that a sample hits
pub record Prepared (s plan lists : List ℕ) (hits : ℕ) : Type 0 where
  pub planned : Plans.Prepared (table_of s) plan lists
  pub room : counter_total (table_of s) + 256 ≤ hits

-- a sample's effect: the answer, the words and the report
pub record Done (e : Effect) (a : Result Unit Refusal) (w r : List ℕ) : Type 0 where
  pub number : number_in a ≡ e.response.number
  pub words : w ≡ e.words
  pub report : r ≡ e.response.report

-- the answer and what is written are the batch's
pub record Took (b : Batch) (a : Taken) (w r : List ℕ) : Type 0 where
  pub number : number_in a.end ≡ b.number
  pub taken : a.taken ≡ b.taken
  pub words : w ≡ b.words
  pub reports : r ≡ b.reports

-- all that is left of the samples' words v
unfoldable pub turns : List ℕ → Table → List ℕ → List ℕ → List ℕ → Batch
turns s t w v r = in_turn s t (length v) w v r

-- where the sample that begins at a ends, among n words
abbrev pub end_of : ℕ → ℕ → ℕ → ℕ
end_of size a n = cond (leb size (n - a)) (a + size) n

-- k samples were taken already, and p are the reports' words before the rest's
abbrev pub ahead : ℕ → List ℕ → Batch → Batch
ahead k p b = record { number = b.number; taken = k + b.taken; words = b.words; reports = p ++ b.reports }
