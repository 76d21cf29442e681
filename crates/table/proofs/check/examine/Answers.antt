use mathlib.Core.Path.{◌≡◌, ◌∙◌, sym, subst}
use native.Mathlib.Omega.{arith}
use Rattle.std.proofs.Common.{rules, None}
use Rattle.words.proofs.Laws.{handed}
use Rattle.table.specs.Check.{ExaminedOf}
use Rattle.table.proofs.Outcome.{too_long, sections-stop, left_over, readable, all-passed, over-limits, within-known, limits-broken}
use Rattle.table.proofs.MeasureLaws.{facts-whole, facts-refused}
use Rattle.table.proofs.check.examine.Goals as goal

pub returns-then-len-gt65536 : goal.returns-then-len-gt65536
returns-then-len-gt65536 c =
    let e = too_long _ (omega arith) in
    (e, facts-refused _ _ e)

pub returns-in_err-end : goal.returns-in_err-end
returns-in_err-end c =
    let e = sections-stop _ c.if-len-gt65536.false _ c.in_err-end.ensures in
    subst (ExaminedOf c.args.t.now) (sym (handed _ _ c.from_residual.ensures)) (e, facts-refused _ _ e)

pub returns-then-end-len : goal.returns-then-end-len
returns-then-end-len c =
    let e = left_over _ c.if-len-gt65536.false _ c.in_ok-end.ensures c.if-end-len.true in
    (e, facts-refused _ _ e)

pub tally-n-requires : goal.tally-n-requires
tally-n-requires c = (readable _ c.if-len-gt65536.false _ c.in_ok-end.ensures c.if-end-len.false, c.if-len-gt65536.false)

pub returns-in_default : goal.returns-in_default
returns-in_default c =
    let none : None ≡ c.tally-n.result.counters = search rules in
    let e = over-limits _ c.if-len-gt65536.false _ c.in_ok-end.ensures c.if-end-len.false (limits-broken _ (none ∙ c.tally-n.ensures.counters)) in
    (e, facts-refused _ _ e)

pub returns : goal.returns
returns c =
    let n = c.tally-n.ensures in
    let w = within-known _ _ (sym c.in-Some.is ∙ n.counters) in
    let e = all-passed _ c.if-len-gt65536.false _ c.in_ok-end.ensures c.if-end-len.false w.0 in
    (e, facts-whole _ _ e _ _ _ _ c.read2-points.ensures w.1 n.runs n.illegals)
