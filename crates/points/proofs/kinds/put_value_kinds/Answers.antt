use Rattle.points.specs.Kinds.{kinds_in}
use mathlib.Core.Path.{refl, sym, ap, ◌∙◌}
use mathlib.Core.List.{List}
use Prim.Native.Nat.{◌+◌}
use native.Mathlib.Omega.{arith}
use lib.ListN.{length, length-append}
use Rattle.model.specs.Table.{ValueBin}
use Rattle.arrays.specs.Put.{put}
use Rattle.arrays.proofs.Written.{put-turn, put-end}
use Rattle.values.proofs.Laws.{bins_start}
use Rattle.points.proofs.KindLaws.{kinds_turn, kinds_end}
use Rattle.points.proofs.kinds.put_value_kinds.Goals as goal

pub loop-i-init : goal.loop-i-init
loop-i-init c =
    let a = c.args in
    let z = sym (bins_start a.t.now a.own.bins a.own.ranges a.own.count) in (
      omega arith,
      omega arith,
      refl,
      ap (λ (bs : List ValueBin). a.cur + length (kinds_in a.low a.p bs)) z,
      ap (λ (bs : List ValueBin). put a.cur (kinds_in a.low a.p bs) a.kinds.now) z,
    )

pub put_bin_kinds-c-requires : goal.put_bin_kinds-c-requires
put_bin_kinds-c-requires c =
    let a = c.args in
    let l = c.loop-i in
    let z = kinds_turn a.low a.p a.t.now a.own.bins l.at a.own.count l.i _ (omega arith) refl in
    (omega arith, omega arith, c.requires.bins_bound.3, omega (arith, simp length-append at (ap length z), l.invariant.2, l.invariant.3, c.requires.count_in_bounds))

pub loop-i-preserved : goal.loop-i-preserved
loop-i-preserved c =
    let a = c.args in
    let l = c.loop-i in
    let q = c.put_bin_kinds-c in
    let k = c.read2-k in
    let z = kinds_turn a.low a.p a.t.now a.own.bins l.at a.own.count l.i k.result (omega arith) k.ensures in
    let w = put-turn l.c q.result _ _ _ l.kinds q.new.kinds z (omega (arith, l.invariant.2, l.invariant.3, c.requires.count_in_bounds)) q.ensures.0 q.ensures.1 in (
      omega arith,
      omega arith,
      q.auto.kinds ∙ l.invariant.2,
      w.0 ∙ l.invariant.3,
      w.1 ∙ l.invariant.4,
    )

pub returns : goal.returns
returns c =
    let a = c.args in
    let l = c.loop-i in
    put-end l.c a.cur _ _ l.kinds a.kinds.now (kinds_end a.low a.p a.t.now a.own.bins l.at a.own.count l.i (omega arith)) l.invariant.3 l.invariant.4
