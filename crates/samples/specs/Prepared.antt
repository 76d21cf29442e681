-- What is worked out of a table once, for its samples: the rows of its sequences, and behind them in the same array the plan of its values; its lists.
-- Assumes nothing.
use Rattle.std.specs.Prelude.{ℕ, ◌≡◌, List, length, get_or, drop}
use Rattle.model.specs.Table.{Table}
use Rattle.runs.specs.Rows.{sequence_rows, SequencesAt}
use Rattle.lists.specs.Lists.{Ready}

-- element 62 of the lists tells how many words the rows are, element 61 how many transition bins there are
pub record Prepared (t : Table) (plan lists : List ℕ) : Type 0 where
  pub sequences : SequencesAt t plan 0
  pub bins : get_or lists 61 0 ≡ length t.transition_bins
  pub rows : get_or lists 62 0 ≡ length (sequence_rows t)
  pub ready : Ready t (drop (length (sequence_rows t)) plan) lists
