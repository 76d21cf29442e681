use mathlib.Core.Path.{ap, ◌∙◌}
use native.Mathlib.Omega.{arith}
use lib.ListN.{length}
use Rattle.crosses.proofs.Laws.{labels_start, labels_end}
use Rattle.crosshits.proofs.CountLaws.{labels-sum}
use Rattle.crosshits.proofs.counts.bin_count.Goals as goal

pub loop-i-init : goal.loop-i-init
loop-i-init c = let a = c.args in (omega arith, omega arith, omega (arith, ap length (labels_start 0 0 a.t.now a.b a.n)))

pub overflow_add-sum : goal.overflow_add-sum
overflow_add-sum c = omega (arith, c.label_count-sum.ensures.1)

pub loop-i-preserved : goal.loop-i-preserved
loop-i-preserved c =
    let a = c.args in
    let l = c.loop-i in
    (omega arith, omega (arith, c.label_count-sum.ensures.1), l.invariant.2 ∙ labels-sum a.t.now a.b a.n l.i c.byte-k.result c.label_count-sum.result l.sum (omega arith) c.byte-k.ensures c.label_count-sum.ensures.0)

pub returns : goal.returns
returns c =
    let a = c.args in
    let l = c.loop-i in
    omega (arith, l.invariant.2, ap length (labels_end 0 0 a.t.now a.b a.n l.i (omega arith)))
