use mathlib.Core.Path.{ap, ◌∙◌}
use mathlib.Core.List.{List, ◌∷◌}
use Prim.Native.Nat.{ℕ}
use native.Mathlib.Omega.{arith}
use lib.ListN.{take, set, length-take}
use Rattle.arrays.specs.Put.{put}
use Rattle.places.specs.Places.{of_kind, places_from}
use Rattle.places.proofs.PlaceLaws.{places-few}
use Rattle.lists.proofs.Fronts.{set-put, back-put}
use Rattle.lists.proofs.put_illegal.Goals as goal

pub overflow_cast-out : goal.overflow_cast-out
overflow_cast-out c =
    let a = c.args in
    let p = c.requires in
    omega (arith, c.put_illegals-c.ensures.count, places-few (of_kind 2) 0 (take a.n a.kinds.now), length-take a.n a.kinds.now, p.2)

pub returns : goal.returns
returns c =
    let a = c.args in
    let p = c.requires in
    let q = c.put_illegals-c in
    let out = a.out.now in
    let those = places_from (of_kind 2) 0 (take a.n a.kinds.now) in (
      q.ensures.count,
      ap (λ (l : List ℕ). set l 0 q.result) (back-put 1 out (omega (arith, p.1)) q.new.out those q.ensures.places)
          ∙ set-put 0 q.result those out (omega (arith, p.1))
          ∙ ap (λ (m : ℕ). put 0 (m ∷ those) out) q.ensures.count,
    )
