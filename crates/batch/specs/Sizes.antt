-- The room that the plan and the lists of a table need.
-- Assumes nothing.
use Rattle.std.specs.Prelude.{ℕ, ◌+◌, ◌*◌, ◌≤◌, length}
use Rattle.model.specs.Table.{Table}
use Rattle.layout.specs.declared.Layout.{Layout}
use Rattle.meets.specs.Plan.{plan_need}
use Rattle.runs.specs.Rows.{sequence_rows}
use Rattle.sampling.specs.declared.Index.{Index}
use Rattle.sampling.specs.Index.{plan_room}
use Rattle.lists.specs.Lists.{lists_need}

-- arrays of so many elements hold the plan and the lists of the table
pub record Sized (t : Table) (n m : ℕ) : Type 0 where
  pub plan : length (sequence_rows t) + plan_need t ≤ n
  pub lists : lists_need t ≤ m

-- how many words the rows of the sequences and the plan of the values take at most, by the counts of the sections and the points' counters
abbrev pub room_for : Layout → Index → ℕ
room_for l x = 2 * l.transition_count + 3 * l.sequence_count + 2 * l.step_count + 4 * l.step_range_count + plan_room l.range_count x
