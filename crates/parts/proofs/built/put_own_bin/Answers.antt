use mathlib.Core.Path.{sym, ◌∙◌}
use Rattle.parts.proofs.OwnLaws.{own_off, own_on, own_fit, own_listed_lem, own_room, own_parts}
use Rattle.parts.proofs.built.put_own_bin.Goals as goal

pub returns-then-not-own : goal.returns-then-not-own
returns-then-not-own c =
    let a = c.args in
    own_off a.t.now a.b.low a.b.at a.b.ranges a.own _ _ _ (c.if-not-own.true)

pub put_values-requires : goal.put_values-requires
put_values-requires c =
    let a = c.args in
    let yes = c.if-not-own.false in
    record { at_bound = (c.requires.at_bound.0, c.requires.at_bound.1, c.requires.at_bound.2, sym c.byte.ensures ∙ c.if-byte-eq1.true, own_fit a.t.now a.b.low a.b.at a.b.ranges a.own yes c.requires.at_bound.3); ranges_in_bounds = (own_room a.t.now a.b.low a.b.at a.b.ranges a.own _ _ yes c.requires.ranges_in_bounds.0, own_parts a.t.now a.b.low a.b.at a.b.ranges a.own _ _ yes c.requires.ranges_in_bounds.1, own_listed_lem a.t.now a.b.low a.b.at a.b.ranges a.own _ yes c.requires.ranges_in_bounds.2, c.requires.ranges_in_bounds.3) }

pub returns-then-byte-eq1 : goal.returns-then-byte-eq1
returns-then-byte-eq1 c =
    let a = c.args in
    own_on a.t.now a.b.low a.b.at a.b.ranges a.own _ _ _ _ _ _ (c.if-not-own.false) c.put_values.ensures

pub put_listed-requires : goal.put_listed-requires
put_listed-requires c =
    let a = c.args in
    let yes = c.if-not-own.false in
    record { at_bound = (c.requires.at_bound.0, c.requires.at_bound.1, (λ e. c.if-byte-eq1.false (c.byte.ensures ∙ e)), own_fit a.t.now a.b.low a.b.at a.b.ranges a.own yes c.requires.at_bound.3); ranges_in_bounds = (own_room a.t.now a.b.low a.b.at a.b.ranges a.own _ _ yes c.requires.ranges_in_bounds.0, own_parts a.t.now a.b.low a.b.at a.b.ranges a.own _ _ yes c.requires.ranges_in_bounds.1) }

pub returns-else-byte-eq1 : goal.returns-else-byte-eq1
returns-else-byte-eq1 c =
    let a = c.args in
    own_on a.t.now a.b.low a.b.at a.b.ranges a.own _ _ _ _ _ _ (c.if-not-own.false) c.put_listed.ensures
