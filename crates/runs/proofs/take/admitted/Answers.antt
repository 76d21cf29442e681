use mathlib.Core.Path.{refl, sym, ap, ◌∙◌}
use mathlib.Core.Bool.{Bool, cond}
use Prim.Native.Nat.{◌*◌, ◌/◌, ◌<◌}
use lib.Bits.{or_zero_l}
use lib.ListN.{length, get_or}
use Rattle.runs.proofs.Admitted.{bits_from, bits-turn, bits-end, bits_admitted}
use native.Mathlib.Omega.{arith}
use Rattle.runs.proofs.take.admitted.Goals as goal

pub loop-i-init : goal.loop-i-init
loop-i-init c =
    let a = c.args in
    (omega arith, or_zero_l (bits_from a.ranges.now a.v 0 _))

pub loop-i-preserved : goal.loop-i-preserved
loop-i-preserved c =
    let a = c.args in
    let l = c.loop-i in
    let w = a.ranges.now in
    let h : l.i < length w / 4 = omega arith in
    (omega arith, bits-turn w a.v l.i (length w / 4) l.r c.pick-r.result h (c.pick-r.ensures ∙ ap (λ (b : Bool). cond b (get_or w (4 * l.i) 0) 0) c.holds-h.ensures) ∙ l.invariant.1)

pub returns : goal.returns
returns c =
    let a = c.args in
    let l = c.loop-i in
    let w = a.ranges.now in
    λ ss e. bits_admitted w a.v l.r (length w / 4) ss refl (sym (bits-end w a.v l.i (length w / 4) l.r (omega arith)) ∙ l.invariant.1) e
