use mathlib.Core.Path.{refl}
use Prim.Native.Nat.{◌<◌}
use native.Mathlib.Omega.{arith}
use lib.ListN.{length-set}
use Rattle.spans.proofs.CollectLaws.{next_fits, others_fit, words_start, words_turn, words_end}
use Rattle.spans.proofs.collects.put_ranges.Goals as goal

pub loop-i-init : goal.loop-i-init
loop-i-init c =
    let a = c.args in
    let w = words_start a.t.now a.low a.start a.n a.at a.out.now c.requires.3 in
    (omega arith, refl, w.0, w.1)

pub range_word-requires : goal.range_word-requires
range_word-requires c =
    let a = c.args in
    let l = c.loop-i in
    (omega arith, next_fits a.t.now a.low a.start a.n l.i (omega arith) l.invariant.2)

pub loop-i-preserved : goal.loop-i-preserved
loop-i-preserved c =
    let a = c.args in
    let l = c.loop-i in
    let more : l.i < a.n = omega arith in (
      omega arith,
      simp length-set l.invariant.1,
      others_fit a.t.now a.low a.start a.n l.i more l.invariant.2,
      words_turn a.t.now a.low a.start a.n l.i more a.at _ l.out _ c.range_word.ensures (omega arith) l.invariant.3,
    )

pub returns : goal.returns
returns c =
    let a = c.args in
    let l = c.loop-i in
    (refl, words_end a.t.now a.low a.start a.n l.i a.at l.out _ (omega arith) l.invariant.3)
