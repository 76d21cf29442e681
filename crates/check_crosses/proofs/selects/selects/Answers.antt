use Rattle.std.proofs.Common.{◌∙◌}
use Rattle.model.specs.Format.{cross_points, cross_bin_head, read_select}
use Rattle.words.proofs.Laws.{eachs, each-stop, each_on, each-done, handed}
use Rattle.check_crosses.proofs.SelectLaws.{select_in}
use Rattle.check_crosses.proofs.selects.selects.Goals as goal

pub returns-in_err-at : goal.returns-in_err-at
returns-in_err-at c =
    handed _ _ c.from_residual.ensures
    ∙ each-stop (read_select c.args.t.now _ _) (cross_bin_head c.args.t.now (cross_points c.args.t.now c.args.c)) 3 _ _ _ _ _ c.loop-i.invariant.3 _ c.loop-i-test.true c.in_err-at.ensures

pub loop-i-preserved : goal.loop-i-preserved
loop-i-preserved c = (search eachs, select_in c.args.t.now _ _ c.args.c c.loop-i.bin _ _ c.loop-i.invariant.1 c.in_ok-at.ensures, search eachs, each_on (read_select c.args.t.now _ _) (cross_bin_head c.args.t.now (cross_points c.args.t.now c.args.c)) 3 _ _ _ _ _ c.loop-i.invariant.3 _ c.loop-i-test.true c.in_ok-at.ensures)

pub returns : goal.returns
returns c = each-done (read_select c.args.t.now _ _) (cross_bin_head c.args.t.now (cross_points c.args.t.now c.args.c)) 3 _ _ _ _ _ c.loop-i.invariant.3 c.loop-i-test.false
