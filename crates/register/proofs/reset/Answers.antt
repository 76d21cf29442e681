use mathlib.Core.Path.{refl, sym, ap, ◌∙◌}
use native.Mathlib.Omega.{arith}
use Rattle.model.specs.Register.{Effect, accept, reset}
use Rattle.refusals.specs.Numbers.{number_in}
use Rattle.refusals.proofs.Numbers.{handed}
use Rattle.refusals.proofs.CallLaws.{table_refuses, call_refused, call_accepted}
use Rattle.register.proofs.WordLaws.{reset_words}
use Rattle.register.proofs.reset.Goals as goal

pub returns-in_err-f : goal.returns-in_err-f
returns-in_err-f c =
    let e = table_refuses _ _ reset _ c.in_err-f.ensures.value in
    record { value = ap number_in (handed _ _ c.from_residual.ensures) ∙ ap (λ (x : Effect). x.response.number) (sym e); register_after = ap (λ (x : Effect). x.words) (sym e) }

pub returns-in_err-test_reset : goal.returns-in_err-test_reset
returns-in_err-test_reset c =
    let e = call_refused _ _ reset _ c.in_ok-f.ensures.value _ c.in_err-test_reset.ensures in
    record { value = ap number_in (handed _ _ c.from_residual-in_err-test_reset.ensures) ∙ ap (λ (x : Effect). x.response.number) (sym e); register_after = ap (λ (x : Effect). x.words) (sym e) }

pub run-requires : goal.run-requires
run-requires c =
    let l = c.in_ok-test_reset.ensures.long refl in
    omega arith

pub returns : goal.returns
unfolding accept
returns c =
    let k = c.in_ok-test_reset.ensures in
    let e = call_accepted _ _ reset _ c.in_ok-f.ensures.value k in
    record { value = ap (λ (x : Effect). x.response.number) (sym e.0); register_after = c.run.ensures ∙ reset_words _ _ e.1 _ (k.long refl) ∙ ap (λ (x : Effect). x.words) (sym e.0) }
