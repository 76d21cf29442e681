use native.Mathlib.Omega.{arith}
use Rattle.model.specs.Format.{table_of}
use Rattle.coverage.proofs.ItemLaws.{items_few}
use Rattle.coverage.proofs.AnswerLaws.{figure_exact}
use Rattle.coverage.proofs.figure.item_figure.Goals as goal

pub bounds-tallies-item : goal.bounds-tallies-item
bounds-tallies-item c = omega (arith, items_few c.args.t.now c.requires.0, c.requires.3, c.all_tallies-tallies.ensures.sized)

pub offset_bounds-tallies-item : goal.offset_bounds-tallies-item
offset_bounds-tallies-item c = omega (arith, items_few c.args.t.now c.requires.0, c.requires.3)

pub returns : goal.returns
returns c =
    let a = c.args in
    let y = c.all_tallies-tallies in
    figure_exact (table_of a.t.now) a.register.now y.result y.ensures a.item c.requires.3 c.item_figure.result c.item_figure.ensures
