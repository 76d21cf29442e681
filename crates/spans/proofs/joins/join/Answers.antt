use mathlib.Core.Bool.{cond}
use mathlib.Core.Path.{refl, ap, ◌∙◌}
use Prim.Native.Nat.{ℕ}
use native.Mathlib.Omega.{arith}
use lib.ListN.{get_or, length-set}
use Rattle.spans.proofs.JoinLaws.{join-none, join-start, join-turn, join_end}
use Rattle.spans.proofs.joins.join.Goals as goal

pub returns-in_default : goal.returns-in_default
returns-in_default c = join-none _ _ c.in_default.ensures.cases

pub loop-v-init : goal.loop-v-init
loop-v-init c = (omega arith, omega arith, refl, join-start _ _ _ _ c.in-Some.ensures.cases.0)

pub loop-v-preserved : goal.loop-v-preserved
loop-v-preserved c =
    let l = c.loop-v in
    let near = c.is_near-near in
    let joined = c.pick-w.ensures ∙ ap (λ (x : ℕ). cond near.result x (get_or c.in-Some.rest.now l.v-index 0)) c.joined_with.ensures in
    let n = join-turn _ _ l.out _ l.w l.c l.v-index l.invariant.3 (omega (arith, c.requires, c.in-Some.ensures.cases.1)) (omega arith) near.result near.ensures _ _ joined c.pick-c.ensures in
    (omega arith, omega (arith, n.1), simp length-set l.invariant.2, n.0)

pub returns : goal.returns
returns c =
    let l = c.loop-v in
    join_end _ _ l.out _ l.w l.c l.v-index l.invariant.3 (omega (arith, c.requires, c.in-Some.ensures.cases.1)) (omega arith)
