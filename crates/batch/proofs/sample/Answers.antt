use Prim.Native.Nat.{ℕ, ◌+◌, ◌*◌}
use mathlib.Core.Path.{sym, ap, ◌∙◌}
use Rattle.model.specs.Register.{Effect}
use Rattle.refusals.specs.Numbers.{number_in}
use Rattle.refusals.proofs.Numbers.{handed}
use Rattle.refusals.proofs.CallLaws.{table-known}
use Rattle.batch.proofs.TopLaws.{ready-first}
use Rattle.batch.proofs.OneLaws.{fails-call, wrong_size, one_done}
use Rattle.batch.proofs.sample.Goals as goal

pub returns-in_err-f : goal.returns-in_err-f
returns-in_err-f c =
    let a = c.args in
    let e = fails-call _ a.register.now a.sample.now a.report.now _ c.in_err-f.ensures in
    record { value = ap number_in (handed _ _ c.from_residual.ensures) ∙ ap (λ (x : Effect). x.response.number) (sym e); register_after = ap (λ (x : Effect). x.words) (sym e); report_after = ap (λ (x : Effect). x.response.report) (sym e) }

pub returns-then-sample-f : goal.returns-then-sample-f
returns-then-sample-f c =
    let a = c.args in
    let e = wrong_size _ a.register.now a.sample.now a.report.now _ c.in_ok-f.ensures c.if-sample-f.true in
    record { value = ap (λ (x : Effect). x.response.number) (sym e); register_after = ap (λ (x : Effect). x.words) (sym e); report_after = ap (λ (x : Effect). x.response.report) (sym e) }

pub all-requires : goal.all-requires
all-requires c =
    let a = c.args in
    let p = c.in_ok-f.ensures in
    (ready-first _ _ a.sample.now a.report.now _ p, (table-known _ _ p.told).1)

pub returns : goal.returns
returns c =
    let a = c.args in
    let k = (table-known _ _ c.in_ok-f.ensures.told).1 in
    let d = one_done _ a.register.now a.sample.now a.report.now (c.if-sample-f.false ∙ ap (λ (n : ℕ). 4 + 2 * n) k.points) _ _ _ c.all.ensures in
    record { value = d.number; register_after = d.words; report_after = d.report }
