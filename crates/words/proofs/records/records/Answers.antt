use Rattle.std.proofs.Common.{Ok, ◌+◌, ◌≤◌, length, rules, arith, ◌∙◌}
use Rattle.words.proofs.Laws.{times_start, times-done, times-stop, times-on, record_cut, handed}
use Rattle.words.proofs.RecordLaws.{record_fails, record_passes}
use Rattle.words.proofs.records.records.Goals as goal

pub loop-i-init : goal.loop-i-init
loop-i-init g c = (search rules, search rules, λ tests h. times_start _ _ _)

pub returns-in_err-end : goal.returns-in_err-end
returns-in_err-end g c tests h =
    handed _ _ c.from_residual.ensures
    ∙ times-stop _ _ _ _ _ (c.loop-i.invariant.2 tests h) _ c.loop-i-test.true (record_cut _ _ _ _ _ (Ok 0) _ c.in_err-end.ensures.value)

pub returns-in_err-tests : goal.returns-in_err-tests
returns-in_err-tests g c tests h =
    let w : c.loop-i.at + c.args.size ≤ length c.args.t.now = omega (arith, c.in_ok-end.ensures.inside.0, c.in_ok-end.ensures.inside.1) in
    handed _ _ c.from_residual-in_err-tests.ensures
    ∙ times-stop _ _ _ _ _ (c.loop-i.invariant.2 tests h) _ c.loop-i-test.true (record_fails _ _ _ _ h _ w _ c.in_err-tests.ensures)

pub loop-i-preserved : goal.loop-i-preserved
loop-i-preserved g c =
    let e = c.in_ok-end.ensures.inside in
    let w : c.loop-i.at + c.args.size ≤ length c.args.t.now = omega (arith, e.0, e.1) in (
      search rules,
      e.1,
      λ tests h. times-on _ _ _ _ _ (c.loop-i.invariant.2 tests h) _ c.loop-i-test.true (record_passes _ _ _ _ h _ w _ e.0 c.in_ok-tests.ensures),
    )

pub returns : goal.returns
returns g c tests h = times-done _ _ _ _ _ (c.loop-i.invariant.2 tests h) c.loop-i-test.false
