-- What a counter is, as text.
-- Assumes nothing.
use Rattle.std.specs.Prelude.{ℕ, List, codes}
use Rattle.report.specs.declared.kinds.CounterKind.{CounterKind}
use Rattle.report.specs.declared.kinds.CounterKind.TheVariants.{Bin, DefaultBin, IllegalBin, TransitionBin, IllegalTransitionBin, CrossBin, IllegalCrossBin, Product, Other}

abbrev pub kind_text : CounterKind → List ℕ
kind_text Bin = codes "bin"
kind_text DefaultBin = codes "default bin"
kind_text IllegalBin = codes "illegal bin"
kind_text TransitionBin = codes "transition bin"
kind_text IllegalTransitionBin = codes "illegal transition bin"
kind_text CrossBin = codes "cross bin"
kind_text IllegalCrossBin = codes "illegal cross bin"
kind_text Product = codes "product"
kind_text Other = codes ""

-- the number of a kind in the flat arrays; they have none above 7
abbrev pub number_of : CounterKind → ℕ
number_of Bin = 0
number_of DefaultBin = 1
number_of IllegalBin = 2
number_of TransitionBin = 3
number_of IllegalTransitionBin = 4
number_of CrossBin = 5
number_of IllegalCrossBin = 6
number_of Product = 7
number_of Other = 8
