-- A call's answer as the numbers that a C caller reads: 0 where there is none.
-- Assumes nothing.
use Rattle.std.specs.Prelude.{ℕ, false, pos, Float}
use Rattle.std.proofs.Math.Option.{none, some}
use Rattle.std.specs.Float.{fin}
use Rattle.model.specs.Register.{Answer, nothing, counted, percent, millionths}

abbrev pub count_in : Answer → ℕ
count_in nothing = 0
count_in (counted n) = n
count_in (percent f) = 0
count_in (millionths f) = 0

-- 1 if there is a figure
abbrev pub present_in : Answer → ℕ
present_in nothing = 0
present_in (counted n) = 0
present_in (percent none) = 0
present_in (percent (some p)) = 1
present_in (millionths none) = 0
present_in (millionths (some m)) = 1

abbrev pub percent_in : Answer → Float
percent_in nothing = fin false 0 (pos 0)
percent_in (counted n) = fin false 0 (pos 0)
percent_in (percent none) = fin false 0 (pos 0)
percent_in (percent (some p)) = p
percent_in (millionths f) = fin false 0 (pos 0)

abbrev pub millionths_in : Answer → ℕ
millionths_in nothing = 0
millionths_in (counted n) = 0
millionths_in (percent f) = 0
millionths_in (millionths none) = 0
millionths_in (millionths (some m)) = m
