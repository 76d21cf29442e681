use mathlib.Core.Path.{refl, ap, ◌∙◌}
use native.Mathlib.Nat.{sub-zero}
use native.Mathlib.Omega.{arith}
use lib.ListN.{length, length-append}
use Rattle.arrays.proofs.Written.{put-turn, put-end}
use Rattle.points.proofs.TransitionLaws.{bins_turn, bins_end}
use Rattle.points.proofs.transitions.put_bins.Goals as goal

pub loop-i-init : goal.loop-i-init
loop-i-init c = (omega arith, refl, rw sub-zero, rw sub-zero)

pub put_transition-c-requires : goal.put_transition-c-requires
put_transition-c-requires c =
    let a = c.args in
    let l = c.loop-i in
    let z = bins_turn a.t.now a.sample.now a.lens.now a.e.point a.e.skip a.e.lost a.l.transitions a.l.transition_count l.i (omega arith) in
    (omega arith, omega (arith, simp length-append at (ap length z), l.invariant.1, l.invariant.2, c.requires.3))

pub loop-i-preserved : goal.loop-i-preserved
loop-i-preserved c =
    let a = c.args in
    let l = c.loop-i in
    let q = c.put_transition-c in
    let z = bins_turn a.t.now a.sample.now a.lens.now a.e.point a.e.skip a.e.lost a.l.transitions a.l.transition_count l.i (omega arith) in
    let w = put-turn l.c q.result _ _ _ l.flags q.new.flags z (omega (arith, l.invariant.1, l.invariant.2, c.requires.3)) q.ensures.0 q.ensures.1 in
    (omega arith, q.auto.flags ∙ l.invariant.1, w.0 ∙ l.invariant.2, w.1 ∙ l.invariant.3)

pub returns : goal.returns
returns c =
    let a = c.args in
    let l = c.loop-i in
    put-end l.c a.cur _ _ l.flags a.flags.now (bins_end a.t.now a.sample.now a.lens.now a.e.point a.e.skip a.e.lost a.l.transitions a.l.transition_count l.i (omega arith)) l.invariant.2 l.invariant.3
