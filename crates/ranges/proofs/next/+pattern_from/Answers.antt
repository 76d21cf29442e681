use Rattle.std.proofs.Common.{◌≡◌, refl, arith}
use Rattle.model.specs.Ranges.{pattern_from}
use Rattle.ranges.proofs.NextLaws.{pattern-end, pattern_half, pattern-near}
use Rattle.ranges.proofs.next.+pattern_from.Goals as goal

pub returns-then-n-eq0 : goal.returns-then-n-eq0
returns-then-n-eq0 t c =
    let a = c.args in
    let e : a.x ≡ pattern_from a.n a.bits a.mask a.x = pattern-end a.n a.bits a.mask a.x a.x (omega arith) refl in
    (e, omega arith)

pub pattern_from-half-requires : goal.pattern_from-half-requires
pattern_from-half-requires t c = (omega arith, (omega arith, omega arith))

pub returns : goal.returns
returns t c =
    let a = c.args in
    let e = pattern_half a.n a.bits a.mask a.x c.saturating_sub-from.result c.pattern_from-half.result c.max.result (omega arith) c.saturating_sub-from.ensures c.pattern_from-half.ensures.0 c.max.ensures in
    (e, pattern-near a.n a.bits a.mask a.x c.max.result (omega arith) e)
