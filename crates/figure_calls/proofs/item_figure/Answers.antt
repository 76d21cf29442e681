use mathlib.Core.Path.{refl, sym, ap, ◌∙◌}
use native.Mathlib.Omega.{arith}
use Rattle.model.specs.Register.{Effect, accept, ask_item}
use Rattle.figure_calls.specs.Answers.{item_answer, item_in}
use Rattle.refusals.specs.Numbers.{number_in}
use Rattle.refusals.proofs.Numbers.{handed}
use Rattle.refusals.proofs.CallLaws.{table_refuses, table-known, tests-refuse, tests-accept, known-accepted}
use Rattle.figure_calls.proofs.FigureLaws.{known-long, items-known, item-answer}
use Rattle.figure_calls.proofs.item_figure.Goals as goal

pub returns-in_err-f : goal.returns-in_err-f
returns-in_err-f c =
    let h = handed _ _ c.from_residual.ensures in
    let e = table_refuses _ c.args.register.now (ask_item c.args.item) _ c.in_err-f.ensures.value in
    record { number_value = ap number_in h ∙ ap (λ (x : Effect). x.response.number) (sym e); figure_value = ap item_in h ∙ ap (λ (x : Effect). x.response.answer) (sym e) }

pub returns-in_err-test_item : goal.returns-in_err-test_item
returns-in_err-test_item c =
    let h = handed _ _ c.from_residual-in_err-test_item.ensures in
    let told = c.in_ok-f.ensures.value in
    let t = table-known _ _ told in
    let n = items-known _ _ c.layout_of-l.ensures.value t.0 in
    let e = tests-refuse _ _ told c.args.register.now (ask_item c.args.item) _ (c.in_err-test_item.ensures.exact _ t.1 n) in
    record { number_value = ap number_in h ∙ ap (λ (x : Effect). x.response.number) (sym e); figure_value = ap item_in h ∙ ap (λ (x : Effect). x.response.answer) (sym e) }

pub item_figure-figure-requires : goal.item_figure-figure-requires
item_figure-figure-requires c =
    let t = table-known _ _ c.in_ok-f.ensures.value in
    let n = items-known _ _ c.layout_of-l.ensures.value t.0 in
    let r = c.in_ok-test_item.ensures in
    (known-accepted _ t.0, known-long _ _ c.args.register.now t.1 (r.long refl), t.1.counters, omega (arith, n, r.inside refl))

pub returns : goal.returns
unfolding accept
returns c =
    let told = c.in_ok-f.ensures.value in
    let t = table-known _ _ told in
    let n = items-known _ _ c.layout_of-l.ensures.value t.0 in
    let e = tests-accept _ _ told c.args.register.now (ask_item c.args.item) (c.in_ok-test_item.ensures.exact _ t.1 n) in
    record { number_value = ap (λ (x : Effect). x.response.number) (sym e); figure_value = ap item_answer c.item_figure-figure.ensures ∙ item-answer _ ∙ ap (λ (x : Effect). x.response.answer) (sym e) }
