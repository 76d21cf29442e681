use mathlib.Core.Path.{sym, ap, ◌∙◌}
use Rattle.refusals.proofs.CallLaws.{table-known}
use Rattle.turns.specs.Batch.{Batch}
use Rattle.batch.proofs.TopLaws.{fails-end, goes_on, ready-first}
use Rattle.batch.proofs.samples.Goals as goal

pub all-requires : goal.all-requires
all-requires c =
    let a = c.args in
    let p = c.in-Ok.ensures in
    (ready-first _ _ a.samples.now a.reports.now _ p, (table-known _ _ p.told).1)

pub returns-in-Ok : goal.returns-in-Ok
returns-in-Ok c =
    let a = c.args in
    let e = goes_on _ a.register.now a.samples.now a.reports.now _ c.in-Ok.ensures in
    let d = c.all.ensures in
    record { number_value = d.number ∙ ap (λ (b : Batch). b.number) (sym e); taken_value = d.taken ∙ ap (λ (b : Batch). b.taken) (sym e); register_after = d.words ∙ ap (λ (b : Batch). b.words) (sym e); reports_after = d.reports ∙ ap (λ (b : Batch). b.reports) (sym e) }

pub returns-in-Err : goal.returns-in-Err
returns-in-Err c =
    let a = c.args in
    let e = fails-end _ a.register.now a.samples.now a.reports.now _ c.in-Err.ensures in
    record { number_value = ap (λ (b : Batch). b.number) (sym e); taken_value = ap (λ (b : Batch). b.taken) (sym e); register_after = ap (λ (b : Batch). b.words) (sym e); reports_after = ap (λ (b : Batch). b.reports) (sym e) }
