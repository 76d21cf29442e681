use mathlib.Core.Path.{ap}
use mathlib.Core.Bool.{not}
use Rattle.found.proofs.PartLaws.{not_held, not_new, not-guarded, is-taken, none_new, one_room, one-new}
use Rattle.found.proofs.put_part.Goals as goal

pub returns-then-not-holds : goal.returns-then-not-holds
returns-then-not-holds c = let whole = none_new _ _ _ _ (not_held _ _ _ _ _ c.holds.ensures (ap not c.if-not-holds.true)) _ _ in record { at_value = whole.0; found_after = whole.1 }

pub returns-then-k-c : goal.returns-then-k-c
returns-then-k-c c = let whole = none_new _ _ _ _ (not_new _ _ _ _ _ c.holds.ensures (ap not c.if-not-holds.false) _ c.part-k.ensures.0 c.if-k-c.true) _ _ in record { at_value = whole.0; found_after = whole.1 }

pub returns-then-not-guard_holds : goal.returns-then-not-guard_holds
returns-then-not-guard_holds c =
    let whole = none_new _ _ _ _ (not-guarded _ _ _ _ _ c.holds.ensures (ap not c.if-not-holds.false) _ c.part-k.ensures.0 _ c.guard_holds.ensures c.if-k-c.false (ap not c.if-not-guard_holds.true)) _ _ in record { at_value = whole.0; found_after = whole.1 }

pub bounds-found-at : goal.bounds-found-at
bounds-found-at c =
    let e = is-taken _ _ _ _ _ c.holds.ensures (ap not c.if-not-holds.false) _ c.part-k.ensures.0 _ c.guard_holds.ensures c.if-k-c.false (ap not c.if-not-guard_holds.false) in
    one_room _ _ _ _ e _ _ c.args.found.now c.part-k.ensures.0 c.requires.row_in_bounds_2

pub returns : goal.returns
returns c =
    let e = is-taken _ _ _ _ _ c.holds.ensures (ap not c.if-not-holds.false) _ c.part-k.ensures.0 _ c.guard_holds.ensures c.if-k-c.false (ap not c.if-not-guard_holds.false) in
    let whole = one-new _ _ _ _ e _ _ c.args.found.now c.part-k.ensures.0 (one_room _ _ _ _ e _ _ c.args.found.now c.part-k.ensures.0 c.requires.row_in_bounds_2) in record { at_value = whole.0; found_after = whole.1 }
