use mathlib.Core.Path.{refl, sym, ap, ◌∙◌}
use native.Mathlib.Omega.{arith}
use Rattle.model.specs.Register.{Effect, accept, start}
use Rattle.refusals.specs.Numbers.{number_in}
use Rattle.refusals.proofs.Numbers.{handed}
use Rattle.refusals.proofs.CallLaws.{table_refuses, call_refused, call_accepted}
use Rattle.register.proofs.WordLaws.{start-runs, start_stopped, restart_words}
use Rattle.register.proofs.start.Goals as goal

pub returns-in_err-f : goal.returns-in_err-f
returns-in_err-f c =
    let e = table_refuses _ _ start _ c.in_err-f.ensures.value in
    record { value = ap number_in (handed _ _ c.from_residual.ensures) ∙ ap (λ (x : Effect). x.response.number) (sym e); register_after = ap (λ (x : Effect). x.words) (sym e) }

pub returns-in_err-test_start : goal.returns-in_err-test_start
returns-in_err-test_start c =
    let e = call_refused _ _ start _ c.in_ok-f.ensures.value _ c.in_err-test_start.ensures in
    record { value = ap number_in (handed _ _ c.from_residual-in_err-test_start.ensures) ∙ ap (λ (x : Effect). x.response.number) (sym e); register_after = ap (λ (x : Effect). x.words) (sym e) }

pub bounds-register-0 : goal.bounds-register-0
bounds-register-0 c = omega (arith, c.in_ok-test_start.ensures.long refl)

pub returns-then-register-eq1 : goal.returns-then-register-eq1
unfolding accept
returns-then-register-eq1 c =
    let w = c.args.register.now in
    let e = (call_accepted _ w start _ c.in_ok-f.ensures.value c.in_ok-test_start.ensures).0 in
    record { value = ap (λ (x : Effect). x.response.number) (sym e); register_after = start-runs _ w c.if-register-eq1.true ∙ ap (λ (x : Effect). x.words) (sym e) }

pub run-requires : goal.run-requires
run-requires c =
    let l = c.in_ok-test_start.ensures.long refl in
    omega arith

pub returns : goal.returns
unfolding accept
returns c =
    let k = c.in_ok-test_start.ensures in
    let w = c.args.register.now in
    let e = call_accepted _ w start _ c.in_ok-f.ensures.value k in record {
      value = ap (λ (x : Effect). x.response.number) (sym e.0);
      register_after = c.run.ensures
          ∙ restart_words _ _ e.1 w (k.long refl)
          ∙ start_stopped _ w c.if-register-eq1.false
          ∙ ap (λ (x : Effect). x.words) (sym e.0);
    }
