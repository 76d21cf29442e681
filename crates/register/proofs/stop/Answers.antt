use mathlib.Core.Path.{refl, sym, ap, ◌∙◌}
use Prim.Native.Nat.{◌≤◌}
use lib.ListN.{length}
use native.Mathlib.Omega.{arith}
use Rattle.model.specs.Register.{Effect, accept, stop}
use Rattle.refusals.specs.Numbers.{number_in}
use Rattle.refusals.proofs.Numbers.{handed}
use Rattle.refusals.proofs.CallLaws.{stop-start, table_refuses, call_refused, call_accepted}
use Rattle.register.proofs.WordLaws.{stop-words}
use Rattle.register.proofs.stop.Goals as goal

pub returns-in_err-f : goal.returns-in_err-f
returns-in_err-f c =
    let e = table_refuses _ _ stop _ c.in_err-f.ensures.value in
    record { value = ap number_in (handed _ _ c.from_residual.ensures) ∙ ap (λ (x : Effect). x.response.number) (sym e); register_after = ap (λ (x : Effect). x.words) (sym e) }

pub returns-in_err-test_start : goal.returns-in_err-test_start
returns-in_err-test_start c =
    let e = call_refused _ _ stop _ c.in_ok-f.ensures.value _ (stop-start _ _ _ c.in_err-test_start.ensures) in
    record { value = ap number_in (handed _ _ c.from_residual-in_err-test_start.ensures) ∙ ap (λ (x : Effect). x.response.number) (sym e); register_after = ap (λ (x : Effect). x.words) (sym e) }

pub bounds-register-0 : goal.bounds-register-0
bounds-register-0 c = omega (arith, c.in_ok-test_start.ensures.long refl)

pub returns : goal.returns
unfolding accept
returns c =
    let k = stop-start _ _ _ c.in_ok-test_start.ensures in
    let w = c.args.register.now in
    let e = (call_accepted _ w stop _ c.in_ok-f.ensures.value k).0 in
    let l : 1 ≤ length w = omega (arith, k.long refl) in
    record { value = ap (λ (x : Effect). x.response.number) (sym e); register_after = stop-words w l ∙ ap (λ (x : Effect). x.words) (sym e) }
