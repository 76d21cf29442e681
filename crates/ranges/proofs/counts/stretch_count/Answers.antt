use Rattle.std.proofs.Common.{arith, rules}
use Rattle.model.specs.Raw.{ranges_at}
use Rattle.ranges.proofs.CountLaws.{stretch_start, stretch_on, stretch_none, stretch_done, max-left, last-small, more-counted}
use Rattle.ranges.proofs.counts.stretch_count.Goals as goal

pub loop-count-init : goal.loop-count-init
loop-count-init c = let a = c.args in (search rules, search rules, stretch_start (ranges_at a.t.now a.start a.n) a.low)

pub returns-then-first-ge8589934592 : goal.returns-then-first-ge8589934592
returns-then-first-ge8589934592 c =
    let l = c.loop-count in
    let a = c.args in (
      stretch_none (ranges_at a.t.now a.start a.n) l.x _ l.count l.invariant.2 c.stretch_from-s.result c.stretch_from-s.ensures c.if-first-ge8589934592.true,
      search rules,
    )

pub overflow_add-last : goal.overflow_add-last
overflow_add-last c = omega (arith, last-small _ _ _ _ c.if-first-ge8589934592.false c.min.ensures c.max-last.ensures)

pub overflow_sub-last : goal.overflow_sub-last
overflow_sub-last c = omega (arith, max-left _ _ _ c.max-last.ensures)

pub overflow_add-count : goal.overflow_add-count
overflow_add-count c = omega (arith, last-small _ _ _ _ c.if-first-ge8589934592.false c.min.ensures c.max-last.ensures)

pub overflow_add-x : goal.overflow_add-x
overflow_add-x c = omega (arith, last-small _ _ _ _ c.if-first-ge8589934592.false c.min.ensures c.max-last.ensures)

pub loop-count-smaller : goal.loop-count-smaller
loop-count-smaller c =
    more-counted c.loop-count.count c.stretch_from-s.result.first c.max-last.result c.min-count.result (search rules) (max-left _ _ _ c.max-last.ensures) c.min-count.ensures

pub loop-count-preserved : goal.loop-count-preserved
loop-count-preserved c =
    let l = c.loop-count in
    let a = c.args in (
      omega (arith, c.min-count.ensures),
      omega (arith, last-small _ _ _ _ c.if-first-ge8589934592.false c.min.ensures c.max-last.ensures),
      stretch_on (ranges_at a.t.now a.start a.n) l.x _ l.count l.invariant.2 c.stretch_from-s.result c.stretch_from-s.ensures (search rules) c.min.result c.max-last.result c.min-count.result c.if-first-ge8589934592.false c.min.ensures c.max-last.ensures c.min-count.ensures,
    )

pub returns : goal.returns
returns c =
    let l = c.loop-count in
    let a = c.args in
    (stretch_done (ranges_at a.t.now a.start a.n) l.x _ l.count l.invariant.2 (search rules), search rules)
