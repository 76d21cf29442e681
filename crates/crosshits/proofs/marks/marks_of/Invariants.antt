use mathlib.Core.Path.{◌≡◌}
use lib.Bits.{bit_or}
use lib.ListN.{drop}
use Rattle.crosshits.specs.Listed.{list_marks}
use Rattle.crosshits.proofs.marks.marks_of.Given as goal

abbrev pub invariant-loop-x : goal.invariant-loop-x
invariant-loop-x l = bit_or l.own (list_marks l.mask l.plan l.start (drop l.x-index l.list)) ≡ list_marks l.mask l.plan l.start l.list
