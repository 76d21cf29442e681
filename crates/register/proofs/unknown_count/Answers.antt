use mathlib.Core.Path.{refl, sym, ap, ◌∙◌}
use native.Mathlib.Omega.{arith}
use Rattle.model.specs.Register.{Effect, counted, accept, ask_unknown}
use Rattle.refusals.specs.Numbers.{number_in}
use Rattle.refusals.proofs.Numbers.{handed}
use Rattle.refusals.proofs.CallLaws.{table_refuses, call_refused, call_accepted}
use Rattle.register.specs.Answers.{counted_in}
use Rattle.register.proofs.WordLaws.{unknown_read}
use Rattle.register.proofs.unknown_count.Goals as goal

pub returns-in_err-f : goal.returns-in_err-f
returns-in_err-f c =
    let h = handed _ _ c.from_residual.ensures in
    let e = table_refuses _ _ (ask_unknown _) _ c.in_err-f.ensures.value in
    record { number_value = ap number_in h ∙ ap (λ (x : Effect). x.response.number) (sym e); count_value = ap counted_in h ∙ ap (λ (x : Effect). x.response.answer) (sym e) }

pub returns-in_err-test_unknown : goal.returns-in_err-test_unknown
returns-in_err-test_unknown c =
    let h = handed _ _ c.from_residual-in_err-test_unknown.ensures in
    let e = call_refused _ _ (ask_unknown _) _ c.in_ok-f.ensures.value _ c.in_err-test_unknown.ensures.call_refusal in
    record { number_value = ap number_in h ∙ ap (λ (x : Effect). x.response.number) (sym e); count_value = ap counted_in h ∙ ap (λ (x : Effect). x.response.answer) (sym e) }

pub overflow_add-count-2 : goal.overflow_add-count-2
overflow_add-count-2 c =
    let h = c.in_ok-test_unknown.ensures.point_lt_points in
    omega (arith, c.in_ok-f.ensures.few.counters, c.in_ok-f.ensures.few.points)

pub offset_bounds-register-counters : goal.offset_bounds-register-counters
offset_bounds-register-counters c =
    let h = c.in_ok-test_unknown.ensures.point_lt_points in
    omega (arith, c.in_ok-f.ensures.few.counters, c.in_ok-f.ensures.few.points)

pub bounds-register-counters : goal.bounds-register-counters
bounds-register-counters c =
    let h = c.in_ok-test_unknown.ensures.point_lt_points in
    let l = c.in_ok-test_unknown.ensures.call_refusal.long refl in
    omega (arith, c.in_ok-f.ensures.few.counters, c.in_ok-f.ensures.few.points)

pub returns : goal.returns
unfolding accept
returns c =
    let k = c.in_ok-test_unknown.ensures in
    let e = call_accepted _ _ (ask_unknown _) _ c.in_ok-f.ensures.value k.call_refusal in
    record { number_value = ap (λ (x : Effect). x.response.number) (sym e.0); count_value = ap counted (unknown_read _ _ e.1 _ _ k.point_lt_points) ∙ ap (λ (x : Effect). x.response.answer) (sym e.0) }
