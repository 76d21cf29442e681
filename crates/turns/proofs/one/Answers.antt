use mathlib.Core.Path.{refl, sym, subst}
use native.Mathlib.Omega.{arith}
use Rattle.std.proofs.Common.{Result}
use Rattle.model.specs.Register.{call, sample}
use Rattle.refusals.specs.declared.refusal.Refusal.{Refusal}
use Rattle.refusals.proofs.Numbers.{handed}
use Rattle.refusals.proofs.CallLaws.{known-accepted}
use Rattle.turns.specs.Turns.{Done}
use Rattle.turns.proofs.TurnLaws.{two-words, own_is, one-refused, one-taken}
use Rattle.turns.proofs.Counted.{counted}
use Rattle.turns.proofs.one.Goals as goal

pub bounds-register-0 : goal.bounds-register-0
bounds-register-0 c = omega (arith, two-words _ _ c.requires.0)

pub bounds-register-1 : goal.bounds-register-1
bounds-register-1 c = omega (arith, two-words _ _ c.requires.0)

pub returns-in_err-test_sample : goal.returns-in_err-test_sample
returns-in_err-test_sample c =
    let a = c.args in
    let p = c.requires in
    let l = c.point_count-points in
    let x = c.element-illegals in
    let k = counted _ _ _ p.0.known p.1.planned l.result l.ensures.value x.result x.ensures in
    subst (λ (r : Result Unit Refusal). Done (call a.t.now a.register.now (sample a.s.now a.report.now)) r a.register.now a.report.now) (sym (handed _ _ c.from_residual.ensures))
    (one-refused _ _ p.0 _ _ _ _ k.0 k.1 _ c.in_err-test_sample.ensures _ refl)

pub write_planned-requires : goal.write_planned-requires
write_planned-requires c =
    let p = c.requires in
    let l = c.point_count-points in
    let x = c.element-illegals in
    let k = counted _ _ _ p.0.known p.1.planned l.result l.ensures.value x.result x.ensures in
    (known-accepted _ p.0.known, p.1.planned, p.1.room, sym (own_is _ _ p.0 _ _ _ _ k.0 k.1 _ c.in_ok-test_sample.ensures))

pub returns : goal.returns
returns c =
    let p = c.requires in
    let l = c.point_count-points in
    let x = c.element-illegals in
    let k = counted _ _ _ p.0.known p.1.planned l.result l.ensures.value x.result x.ensures in
    let w = c.write_planned.ensures in
    one-taken _ _ p.0 _ _ _ _ k.0 k.1 _ c.in_ok-test_sample.ensures refl _ _ w.register_after w.report_after
