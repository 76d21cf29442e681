use native.Mathlib.Omega.{arith}
use Rattle.products.proofs.Exact.{cross_placed}
use Rattle.crosshits.proofs.CountLaws.{counters_sum}
use Rattle.crosshits.proofs.counts.counters_of.Goals as goal

pub overflow_add-at : goal.overflow_add-at
overflow_add-at c = omega (arith, (cross_placed c.args.t.now c.args.p c.requires.0).near.0)

pub bin_count-n-requires : goal.bin_count-n-requires
bin_count-n-requires c = (omega (arith, (cross_placed c.args.t.now c.args.p c.requires.0).near.1), omega arith)

pub overflow_add-result : goal.overflow_add-result
overflow_add-result c =
    let a = c.args in
    let s = counters_sum a.t.now a.p a.s c.requires.0 c.requires.1 c.byte-k.result c.bin_count-n.result c.byte-k.ensures c.bin_count-n.ensures in
    omega (arith, s.1)

pub returns : goal.returns
returns c =
    let a = c.args in
    (counters_sum a.t.now a.p a.s c.requires.0 c.requires.1 c.byte-k.result c.bin_count-n.result c.byte-k.ensures c.bin_count-n.ensures).0
