use native.Mathlib.Omega.{arith}
use Rattle.model.specs.Format.{table_of}
use Rattle.coverage.proofs.AnswerLaws.{tallies_within, group_exact}
use Rattle.coverage.proofs.figure.group_figure.Goals as goal

pub mean-requires : goal.mean-requires
mean-requires c =
    let a = c.args in
    let y = c.all_tallies-tallies in
    (c.requires.0, omega (arith, y.ensures.sized), tallies_within (table_of a.t.now) a.register.now y.result y.ensures)

pub returns : goal.returns
returns c =
    let a = c.args in
    let y = c.all_tallies-tallies in
    group_exact (table_of a.t.now) a.register.now y.result y.ensures c.mean.result c.mean.ensures
