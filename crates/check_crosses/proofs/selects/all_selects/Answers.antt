use Rattle.std.proofs.Common.{rules, ◌∙◌}
use Rattle.words.proofs.Laws.{handed}
use Rattle.check_crosses.proofs.SelectLaws.{heads-stop, heads-on, heads_done, selects_end}
use Rattle.check_crosses.proofs.selects.all_selects.Goals as goal

pub returns-in_err-at : goal.returns-in_err-at
returns-in_err-at c = handed _ _ c.from_residual.ensures ∙ heads-stop c.args.t.now _ _ _ _ c.loop-i.cross c.loop-i.bin _ _ c.loop-i.invariant.4 _ _ c.byte.ensures c.loop-i-test.true c.in_err-at.ensures

pub loop-i-preserved : goal.loop-i-preserved
loop-i-preserved c = (search rules, selects_end c.args.t.now _ _ c.loop-i.cross c.loop-i.bin _ _ _ c.loop-i.invariant.1 c.in_ok-at.ensures, search rules, search rules, heads-on c.args.t.now _ _ _ _ c.loop-i.cross c.loop-i.bin _ _ c.loop-i.invariant.4 _ _ c.byte.ensures c.loop-i-test.true c.in_ok-at.ensures)

pub returns : goal.returns
returns c = heads_done c.args.t.now _ _ _ _ c.loop-i.cross c.loop-i.bin _ _ c.loop-i.invariant.4 c.loop-i-test.false
