use native.Mathlib.Omega.{arith}
use Rattle.spans.proofs.CollectLaws.{read_fits, read_word}
use Rattle.spans.proofs.collects.range_word.Goals as goal

pub overflow_sub-lo : goal.overflow_sub-lo
overflow_sub-lo c = omega (arith, read_fits c.args.t.now c.args.at c.args.low c.requires.1 _ _ _ _ c.read8.ensures c.read8-2.ensures c.value_at-lo.ensures c.value_at-hi.ensures)

pub overflow_sub-hi : goal.overflow_sub-hi
overflow_sub-hi c = omega (arith, read_fits c.args.t.now c.args.at c.args.low c.requires.1 _ _ _ _ c.read8.ensures c.read8-2.ensures c.value_at-lo.ensures c.value_at-hi.ensures)

pub span_word-requires : goal.span_word-requires
span_word-requires c = let f = read_fits c.args.t.now c.args.at c.args.low c.requires.1 _ _ _ _ c.read8.ensures c.read8-2.ensures c.value_at-lo.ensures c.value_at-hi.ensures in (omega arith, omega arith)

pub returns : goal.returns
returns c = read_word c.args.t.now c.args.at c.args.low c.requires.1 _ _ _ _ c.read8.ensures c.read8-2.ensures c.value_at-lo.ensures c.value_at-hi.ensures _ c.span_word.ensures
