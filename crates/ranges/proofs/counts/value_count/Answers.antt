use Rattle.model.specs.Raw.{ranges_at}
use Rattle.ranges.proofs.CountLaws.{rising-found}
use Rattle.std.proofs.Common.{rules}
use Rattle.ranges.proofs.counts.value_count.Goals as goal

pub returns-then-found-le257 : goal.returns-then-found-le257
returns-then-found-le257 c =
    let a = c.args in (
      rising-found (ranges_at a.t.now a.start a.n) a.low c.rising_count-found.result c.rising_count-found.ensures c.if-found-le257.true,
      search rules,
    )
