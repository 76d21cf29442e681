use mathlib.Core.Path.{refl, ◌∙◌}
use Prim.Native.Nat.{◌+◌}
use native.Mathlib.Omega.{arith}
use lib.ListN.{length-set}
use Rattle.hits.specs.Places.{Inside}
use Rattle.hits.proofs.FoundLaws.{elements-start, elements_turn, elements_end}
use Rattle.hits.proofs.covers.put_found.Goals as goal

pub loop-i-init : goal.loop-i-init
loop-i-init c = (omega arith, refl, elements-start c.args.places.now c.args.found.now c.args.n c.args.hits.now)

pub overflow_cast-k : goal.overflow_cast-k
overflow_cast-k c = omega (arith, (c.type_inv.found (1 + c.loop-i.i)).fits)

pub offset_bounds-places-k : goal.offset_bounds-places-k
offset_bounds-places-k c = omega (arith, (c.type_inv.found (1 + c.loop-i.i)).fits)

pub bounds-places-k : goal.bounds-places-k
bounds-places-k c =
    let l = c.loop-i in
    unfold Inside in (c.requires.3 l.i (omega arith))

pub bounds-hits-i : goal.bounds-hits-i
bounds-hits-i c = omega (arith, c.loop-i.invariant.1)

pub loop-i-preserved : goal.loop-i-preserved
loop-i-preserved c =
    let a = c.args in
    let l = c.loop-i in
    (omega arith, length-set l.hits l.i _ ∙ l.invariant.1, elements_turn a.places.now a.found.now a.n l.i l.hits _ (omega arith) (omega arith) (omega (arith, l.invariant.1)) l.invariant.2)

pub returns : goal.returns
returns c =
    let a = c.args in
    let l = c.loop-i in
    (refl, elements_end a.places.now a.found.now a.n l.i l.hits _ (omega arith) l.invariant.2)
