-- The tests that all samples of a batch have in common.
-- Assumes nothing.
use Rattle.std.specs.Prelude.{ℕ, ◌≡◌, List, Result, Ok, Err}
use Rattle.table.specs.declared.answer.Facts.{Facts}
use Rattle.table.specs.Check.{facts_of}
use Rattle.refusals.specs.Numbers.{pass}
use Rattle.refusals.specs.Refusals.{RegisterRefusal}
use Rattle.refusals.specs.declared.refusal.Refusal.{Refusal}
use Rattle.refusals.specs.declared.refusal.Refusal.TheVariants.{Table}

-- the facts of the table with the bytes s, and the register w passes its tests
pub record Passes (s w : List ℕ) (f : Facts) : Type 0 where
  pub told : Ok f ≡ facts_of s
  pub register : RegisterRefusal f w pass

-- why not: the table's fault, or the register's refusal
pub data Fails (s w : List ℕ) : Refusal → Type 0 where
  table : (f : _) → Err f ≡ facts_of s → Fails s w (Table f)
  register : (f : Facts) → Ok f ≡ facts_of s → (x : Refusal) → RegisterRefusal f w (Err x) → Fails s w x

abbrev pub TestedAs : List ℕ → List ℕ → Result Facts Refusal → Type 0
TestedAs s w (Ok f) = Passes s w f
TestedAs s w (Err x) = Fails s w x
