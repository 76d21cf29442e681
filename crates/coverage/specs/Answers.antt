-- The figures of a register, as the types of the crate figures, and the tallies that they are made of.
-- Assumes nothing.
use Rattle.std.specs.Prelude.{ℕ, ◌<◌, ◌≡◌, List, length, get_or}
use Rattle.model.specs.Table.{Table}
use Rattle.model.specs.Counters.{counters}
use Rattle.model.specs.Figures.{total, covered, item_count, item_figure, group_figure}
use Rattle.model.specs.Register.{counts_of}
use Rattle.figures.specs.Figures.{figure_case, group_case}
use Rattle.figures.specs.declared.Figure.{Figure}
use Rattle.std.specs.Prelude as std
use Rattle.tallies.specs.Tallies.{no_tally}
use Rattle.tallies.specs.declared.ItemTally.{ItemTally}

abbrev pub item_answer : Table → List ℕ → ℕ → Figure
item_answer t w i = figure_case (item_figure t (counters t) (counts_of t w) i)

abbrev pub group_answer : Table → List ℕ → std.Option ℕ
group_answer t w = group_case (group_figure t (counters t) (counts_of t w))

-- the tallies of all items in the register w
pub record TalliesOf (t : Table) (w : List ℕ) (r : List ItemTally) : Type 0 where
  pub sized : length r ≡ 24
  pub totals_are : (j : ℕ) → j < item_count t → (get_or r j no_tally).total ≡ total t j (counters t)
  pub covered_are : (j : ℕ) → j < item_count t → (get_or r j no_tally).covered ≡ covered t j (counters t) (counts_of t w)
