use Rattle.std.proofs.Common.{◌∙◌}
use Rattle.words.proofs.Laws.{handed}
use Rattle.check_crosses.proofs.SelectLaws.{select_stop, select_refused, select_read}
use Rattle.check_crosses.proofs.selects.select.Goals as goal

pub returns-in_err-end : goal.returns-in_err-end
returns-in_err-end c = handed _ _ c.from_residual.ensures ∙ select_stop c.args.t.now _ _ c.args.c c.args.b _ _ c.byte-n.ensures _ c.in_err-end.ensures

pub returns-in_err-test : goal.returns-in_err-test
returns-in_err-test c =
    handed _ _ c.from_residual-in_err-test.ensures
    ∙ select_refused c.args.t.now _ _ c.args.c c.args.b _ _ c.byte-n.ensures _ c.in_ok-end.ensures _ _ c.one_expression-one.ensures c.saturating_sub.ensures _ c.in_err-test.ensures

pub returns : goal.returns
returns c = select_read c.args.t.now _ _ c.args.c c.args.b _ _ c.byte-n.ensures _ c.in_ok-end.ensures _ _ c.one_expression-one.ensures c.saturating_sub.ensures c.in_ok-test.ensures
