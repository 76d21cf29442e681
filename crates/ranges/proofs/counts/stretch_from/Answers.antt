use Rattle.std.proofs.Common.{rules}
use Rattle.ranges.proofs.CountLaws.{nearest_start, nearest-on, nearest-done}
use Rattle.ranges.proofs.counts.stretch_from.Goals as goal

pub loop-i-init : goal.loop-i-init
loop-i-init c =
    let a = c.args in (
      search rules,
      search rules,
      nearest_start a.t.now a.start a.n a.x,
    )

pub loop-i-preserved : goal.loop-i-preserved
loop-i-preserved c =
    let l = c.loop-i in
    let a = c.args in (
      search rules,
      search rules,
      nearest-on a.t.now a.start a.n a.x l.i l.at l.best l.invariant.2 c.stretch_at-s.result c.nearer-best.result (search rules) c.stretch_at-s.ensures c.nearer-best.ensures,
    )

pub returns : goal.returns
returns c =
    let l = c.loop-i in
    let a = c.args in
    nearest-done a.t.now a.start a.n a.x l.i l.at l.best l.invariant.2 (search rules)
