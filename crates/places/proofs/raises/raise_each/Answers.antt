use mathlib.Core.Path.{sym, ◌∙◌}
use Rattle.places.proofs.RaiseLaws.{raise_on, raise_turn, raise-end}
use Rattle.places.proofs.raises.raise_each.Goals as goal

pub loop-place-preserved : goal.loop-place-preserved
loop-place-preserved c =
    let l = c.loop-place in
    let a = c.args in
    let k = l.place-index in
    let here = c.loop-place-test.true in
    (raise_on a.at a.places.now l.register k here l.invariant.0 _, raise_turn a.at a.places.now l.register k here l.invariant.0 ∙ l.invariant.1)

pub returns : goal.returns
returns c =
    let l = c.loop-place in
    let a = c.args in
    sym (raise-end a.at a.places.now l.register l.place-index c.loop-place-test.false) ∙ l.invariant.1
