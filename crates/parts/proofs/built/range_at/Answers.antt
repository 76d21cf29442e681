use Rattle.parts.proofs.BuildLaws.{span-ends, pattern-ends}
use Rattle.parts.proofs.built.range_at.Goals as goal

pub returns-then-kind-eq0 : goal.returns-then-kind-eq0
returns-then-kind-eq0 c =
    let a = c.args in
    span-ends a.t.now a.at _ c.byte-kind.ensures _ _ c.read8-a.ensures c.read8-b.ensures _ _ c.if-kind-eq0.true c.value_at.ensures c.value_at-then-kind-eq0.ensures

pub returns-else-kind-eq0 : goal.returns-else-kind-eq0
returns-else-kind-eq0 c =
    let a = c.args in
    pattern-ends a.t.now a.at _ c.byte-kind.ensures _ _ c.read8-a.ensures c.read8-b.ensures c.if-kind-eq0.false
