use mathlib.Core.Path.{refl, ap, sym, ◌∙◌}
use mathlib.Core.Bool.{Bool}
use mathlib.Core.List.{[], ◌∷◌}
use Prim.Native.Nat.{◌+◌, ◌<◌}
use lib.ListN.{length, set}
use Rattle.arrays.proofs.PutLaws.{put-nil, put-cons}
use Rattle.arrays.proofs.Written.{as_written, unwritten}
use Rattle.places.specs.Places.{place_if}
use Rattle.places.proofs.PlaceLaws.{place-room}
use Rattle.places.proofs.put_if.Goals as goal
use Rattle.places.proofs.put_if.Goals.{Then-b}

room : (c : Then-b) → c.args.at < length c.args.out.now
room c =
    let a = c.args in
    place-room a.at a.place a.b a.out.now c.if-b.true c.requires.0

pub bounds-out-at : goal.bounds-out-at
bounds-out-at c = room c

pub returns-then-b : goal.returns-then-b
returns-then-b c =
    let a = c.args in
    as_written a.at (a.at + 1) 1 (a.place ∷ []) _ a.out.now (set a.out.now a.at a.place) (ap (λ (b : Bool). place_if b a.place) c.if-b.true) refl refl
    (sym (put-nil (a.at + 1) (set a.out.now a.at a.place)) ∙ put-cons a.at a.place [] a.out.now (room c))

pub returns : goal.returns
returns c =
    let a = c.args in
    unwritten a.at _ a.out.now (ap (λ (b : Bool). place_if b a.place) c.if-b.false)
