use mathlib.Core.Path.{refl}
use Rattle.spans.specs.Point.{free_value}
use Rattle.meets.proofs.SearchLaws.{pattern_piece, met-off, met-on}
use Rattle.meets.proofs.met.meet_pattern.Goals as goal

pub returns-then-not-pattern_met : goal.returns-then-not-pattern_met
returns-then-not-pattern_met c =
    let a = c.args in
    let q = c.requires in
    let f = free_value a.spans.now a.ask.low in
    met-off f a.ask.lo a.ask.hi a.words.now a.at a.flags.now _ (pattern_piece f a.ask.lo a.ask.hi a.words.now a.at _ q.at_in_bounds.1 c.pattern_met.ensures) (c.if-not-pattern_met.true)

pub returns : goal.returns
returns c =
    let a = c.args in
    let q = c.requires in
    let f = free_value a.spans.now a.ask.low in
    met-on f a.ask.lo a.ask.hi a.words.now a.at a.flags.now _ (pattern_piece f a.ask.lo a.ask.hi a.words.now a.at _ q.at_in_bounds.1 c.pattern_met.ensures) _ (c.if-not-pattern_met.false) refl
