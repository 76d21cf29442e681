use mathlib.Core.Path.{refl, ap, ◌∙◌}
use native.Mathlib.Nat.{sub-zero}
use native.Mathlib.Omega.{arith}
use lib.ListN.{length, length-append}
use Rattle.arrays.proofs.Written.{put-turn, put-end}
use Rattle.points.proofs.KindLaws.{rows_turn, rows_end}
use Rattle.points.proofs.kinds.put_transition_kinds.Goals as goal

pub loop-i-init : goal.loop-i-init
loop-i-init c = (omega arith, refl, rw sub-zero, rw sub-zero)

pub put_transition_kind-c-requires : goal.put_transition_kind-c-requires
put_transition_kind-c-requires c =
    let a = c.args in
    let l = c.loop-i in
    let z = rows_turn a.t.now a.p a.b a.n l.i (omega arith) in
    (omega arith, omega (arith, simp length-append at (ap length z), l.invariant.1, l.invariant.2, c.requires.2))

pub loop-i-preserved : goal.loop-i-preserved
loop-i-preserved c =
    let a = c.args in
    let l = c.loop-i in
    let q = c.put_transition_kind-c in
    let z = rows_turn a.t.now a.p a.b a.n l.i (omega arith) in
    let w = put-turn l.c q.result _ _ _ l.kinds q.new.kinds z (omega (arith, l.invariant.1, l.invariant.2, c.requires.2)) q.ensures.0 q.ensures.1 in
    (omega arith, q.auto.kinds ∙ l.invariant.1, w.0 ∙ l.invariant.2, w.1 ∙ l.invariant.3)

pub returns : goal.returns
returns c =
    let a = c.args in
    let l = c.loop-i in
    put-end l.c a.cur _ _ l.kinds a.kinds.now (rows_end a.t.now a.p a.b a.n l.i (omega arith)) l.invariant.2 l.invariant.3
