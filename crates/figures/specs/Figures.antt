-- The model's figures as this crate's types, and the two sums from which the group's figure is made.
-- Assumes nothing.
use Rattle.std.specs.Prelude.{ℕ, ◌+◌, ◌*◌, ◌/◌, ◌^◌, ◌≤◌, false, cond, List, map, eqb, pos, Float}
use Rattle.std.specs.Prelude as std
use Rattle.std.proofs.Math.Option.{Option, none, some}
use Rattle.std.specs.Float.{fin}
use Rattle.model.specs.Lists.{up_from, keep, sum_of}
use Rattle.model.specs.Figures.{Item, counts, weighted}
use Rattle.figures.specs.declared.Figure.{Figure}
use Rattle.figures.specs.declared.Figure.TheVariants.{Percent, Nothing}
use Rattle.figures.specs.declared.Group.{Group}

-- ---- an item's figure

abbrev pub figure_case : Option Float → Figure
figure_case none = Nothing
figure_case (some p) = Percent p

-- the percentage, 0 if there is none, and whether there is one
abbrev pub percent_of : Figure → Float
percent_of (Percent p) = p
percent_of Nothing = fin false 0 (pos 0)

abbrev pub present_of : Figure → ℕ
present_of (Percent p) = 1
present_of Nothing = 0

-- ---- the group's figure

abbrev pub group_case : Option ℕ → std.Option ℕ
group_case none = std.None
group_case (some m) = std.Some m

-- ---- the sums

abbrev pub item : ℕ → ℕ → ℕ → Item
item weight total covered = record { weight = weight; total = total; covered = covered }

abbrev pub weight_of : Item → ℕ
weight_of i = i.weight

-- over the items that count, their weights and their weighted figures
unfoldable pub sums : List Item → Group
sums items = record { weights = sum_of weight_of (keep counts items); sum = sum_of weighted (keep counts items) }

-- n items, numbered from i
unfoldable pub items_from : (ℕ → Item) → ℕ → ℕ → List Item
items_from f i n = map f (up_from i n)

-- the sums g with those of some further items
unfoldable pub sums_from : Group → List Item → Group
sums_from g items = record { weights = g.weights + (sums items).weights; sum = g.sum + (sums items).sum }

-- the mean is at most 100 %
abbrev pub AtMostFull : Group → Type 0
AtMostFull g = g.sum ≤ 10 ^ 8 * g.weights

-- the sums' quotient, rounded down; none where nothing counts
abbrev pub mean : Group → Option ℕ
mean g = cond (eqb g.weights 0) none (some (g.sum / g.weights))
