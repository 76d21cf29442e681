use mathlib.Core.Path.{refl, sym, ap, ◌∙◌}
use native.Mathlib.Omega.{arith}
use Rattle.model.specs.Register.{Effect, counted, accept, ask_counter}
use Rattle.refusals.specs.Numbers.{number_in}
use Rattle.refusals.proofs.Numbers.{handed}
use Rattle.refusals.proofs.CallLaws.{table_refuses, call_refused, call_accepted}
use Rattle.register.specs.Answers.{counted_in}
use Rattle.register.proofs.WordLaws.{count_read}
use Rattle.register.proofs.place_count.Goals as goal

pub returns-in_err-f : goal.returns-in_err-f
returns-in_err-f c =
    let h = handed _ _ c.from_residual.ensures in
    let e = table_refuses _ _ (ask_counter _) _ c.in_err-f.ensures.value in
    record { number_value = ap number_in h ∙ ap (λ (x : Effect). x.response.number) (sym e); count_value = ap counted_in h ∙ ap (λ (x : Effect). x.response.answer) (sym e) }

pub returns-in_err-test_counter : goal.returns-in_err-test_counter
returns-in_err-test_counter c =
    let h = handed _ _ c.from_residual-in_err-test_counter.ensures in
    let e = call_refused _ _ (ask_counter _) _ c.in_ok-f.ensures.value _ c.in_err-test_counter.ensures.call_refusal in
    record { number_value = ap number_in h ∙ ap (λ (x : Effect). x.response.number) (sym e); count_value = ap counted_in h ∙ ap (λ (x : Effect). x.response.answer) (sym e) }

pub overflow_add-count : goal.overflow_add-count
overflow_add-count c =
    let h = c.in_ok-test_counter.ensures.place_lt_counters in
    omega (arith, c.in_ok-f.ensures.few.counters, c.in_ok-f.ensures.few.points)

pub offset_bounds-register-place : goal.offset_bounds-register-place
offset_bounds-register-place c =
    let h = c.in_ok-test_counter.ensures.place_lt_counters in
    omega (arith, c.in_ok-f.ensures.few.counters, c.in_ok-f.ensures.few.points)

pub bounds-register-place : goal.bounds-register-place
bounds-register-place c =
    let h = c.in_ok-test_counter.ensures.place_lt_counters in
    let l = c.in_ok-test_counter.ensures.call_refusal.long refl in
    omega (arith, c.in_ok-f.ensures.few.counters, c.in_ok-f.ensures.few.points)

pub returns : goal.returns
unfolding accept
returns c =
    let k = c.in_ok-test_counter.ensures in
    let e = call_accepted _ _ (ask_counter _) _ c.in_ok-f.ensures.value k.call_refusal in
    record { number_value = ap (λ (x : Effect). x.response.number) (sym e.0); count_value = ap counted (count_read _ _ e.1 _ _ k.place_lt_counters) ∙ ap (λ (x : Effect). x.response.answer) (sym e.0) }
