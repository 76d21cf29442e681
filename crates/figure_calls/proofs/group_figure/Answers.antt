use mathlib.Core.Path.{refl, sym, ap, ◌∙◌}
use Rattle.model.specs.Register.{Effect, call_tests, accept, ask_group}
use Rattle.figure_calls.specs.Answers.{group_answer, group_in}
use Rattle.refusals.specs.Numbers.{number_in}
use Rattle.refusals.proofs.Numbers.{handed}
use Rattle.refusals.proofs.CallLaws.{table_refuses, table-known, tests-refuse, tests-accept, known-accepted}
use Rattle.figure_calls.proofs.FigureLaws.{known-long, group-answer}
use Rattle.figure_calls.proofs.group_figure.Goals as goal

pub returns-in_err-f : goal.returns-in_err-f
returns-in_err-f c =
    let h = handed _ _ c.from_residual.ensures in
    let e = table_refuses _ c.args.register.now ask_group _ c.in_err-f.ensures.value in
    record { number_value = ap number_in h ∙ ap (λ (x : Effect). x.response.number) (sym e); figure_value = ap group_in h ∙ ap (λ (x : Effect). x.response.answer) (sym e) }

pub returns-in_err-test_register : goal.returns-in_err-test_register
unfolding call_tests
returns-in_err-test_register c =
    let h = handed _ _ c.from_residual-in_err-test_register.ensures in
    let told = c.in_ok-f.ensures.value in
    let t = table-known _ _ told in
    let e = tests-refuse _ _ told c.args.register.now ask_group _ (c.in_err-test_register.ensures.exact _ t.1) in
    record { number_value = ap number_in h ∙ ap (λ (x : Effect). x.response.number) (sym e); figure_value = ap group_in h ∙ ap (λ (x : Effect). x.response.answer) (sym e) }

pub group_figure-figure-requires : goal.group_figure-figure-requires
group_figure-figure-requires c =
    let t = table-known _ _ c.in_ok-f.ensures.value in
    (known-accepted _ t.0, known-long _ _ c.args.register.now t.1 (c.in_ok-test_register.ensures.long refl), t.1.counters)

pub returns : goal.returns
unfolding accept call_tests
returns c =
    let told = c.in_ok-f.ensures.value in
    let t = table-known _ _ told in
    let e = tests-accept _ _ told c.args.register.now ask_group (c.in_ok-test_register.ensures.exact _ t.1) in
    record { number_value = ap (λ (x : Effect). x.response.number) (sym e); figure_value = ap group_answer c.group_figure-figure.ensures ∙ group-answer _ ∙ ap (λ (x : Effect). x.response.answer) (sym e) }
