use mathlib.Core.Path.{◌≡◌, refl, sym, ap, ◌∙◌}
use Prim.Native.Nat.{◌+◌, ◌-◌, ◌*◌}
use native.Mathlib.Omega.{arith}
use lib.ListN.{replicate, length-replicate}
use Rattle.model.specs.Format.{u16}
use Rattle.model.specs.Raw.{bins_at}
use Rattle.arrays.proofs.Written.{written_start, written-room, written-turn, written_end}
use Rattle.origins.specs.Points.{origins_in}
use Rattle.origins.proofs.OriginLaws.{origins-start, origins_turn, origins_end}
use Rattle.origins.proofs.listed.put_listed.Goals as goal

pub loop-i-init : goal.loop-i-init
loop-i-init c =
    let a = c.args in
    let s = a.t.now in
    let here : a.own.bins + 8 * 0 ≡ a.own.bins = omega arith in
    rw here (omega arith, omega arith, written_start a.at (origins_in a.low a.p a.first (bins_at s a.own.bins a.own.ranges a.own.count)) (origins_in a.low a.p (a.first + 0) (bins_at s a.own.bins a.own.ranges (a.own.count - 0))) a.out.now (origins-start s a.low a.p a.first a.own.bins a.own.ranges a.own.count))

pub put_same-c-requires : goal.put_same-c-requires
put_same-c-requires c =
    let a = c.args in
    let q = c.requires in
    let l = c.loop-i in
    let s = a.t.now in
    let m = c.own_count-m in
    let room = written-room a.at (origins_in a.low a.p a.first (bins_at s a.own.bins a.own.ranges a.own.count)) a.out.now l.c l.out (origins_in a.low a.p (a.first + l.i) (bins_at s (a.own.bins + 8 * l.i) l.r (a.own.count - l.i))) l.invariant.2 q.4 (replicate m.result (a.first + l.i)) (origins_in a.low a.p (a.first + (l.i + 1)) (bins_at s (a.own.bins + 8 * l.i + 8) (l.r + 17 * u16 s (a.own.bins + 8 * l.i + 6)) (a.own.count - (l.i + 1)))) (origins_turn s a.low a.p a.first (a.own.bins + 8 * l.i) l.r a.own.count l.i m.result (u16 s (a.own.bins + 8 * l.i + 6)) (omega arith) m.ensures.0 refl) in
    omega (arith, room, length-replicate m.result (a.first + l.i))

pub loop-i-preserved : goal.loop-i-preserved
loop-i-preserved c =
    let a = c.args in
    let q = c.requires in
    let l = c.loop-i in
    let s = a.t.now in
    let m = c.own_count-m in
    let k = c.read2 in
    let w = c.put_same-c in
    let next : a.own.bins + 8 * (l.i + 1) ≡ a.own.bins + 8 * l.i + 8 = omega arith in
    rw next (
      omega arith,
      omega arith,
      written-turn a.at (origins_in a.low a.p a.first (bins_at s a.own.bins a.own.ranges a.own.count)) a.out.now l.c l.out (origins_in a.low a.p (a.first + l.i) (bins_at s (a.own.bins + 8 * l.i) l.r (a.own.count - l.i))) l.invariant.2 q.4 (replicate m.result (a.first + l.i)) (origins_in a.low a.p (a.first + (l.i + 1)) (bins_at s (a.own.bins + 8 * l.i + 8) (l.r + 17 * k.result) (a.own.count - (l.i + 1)))) (origins_turn s a.low a.p a.first (a.own.bins + 8 * l.i) l.r a.own.count l.i m.result k.result (omega arith) m.ensures.0 k.ensures)
          w.result w.new.xs (w.ensures.0 ∙ ap (l.c +◌) (sym (length-replicate m.result (a.first + l.i)))) w.ensures.1,
    )

pub returns : goal.returns
returns c =
    let a = c.args in
    let q = c.requires in
    let l = c.loop-i in
    let s = a.t.now in
    written_end a.at (origins_in a.low a.p a.first (bins_at s a.own.bins a.own.ranges a.own.count)) a.out.now l.c l.out (origins_in a.low a.p (a.first + l.i) (bins_at s (a.own.bins + 8 * l.i) l.r (a.own.count - l.i))) l.invariant.2 (origins_end s a.low a.p a.first (a.own.bins + 8 * l.i) l.r a.own.count l.i (omega arith))
