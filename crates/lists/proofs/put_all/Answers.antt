use mathlib.Core.Path.{◌≡◌, ap, ◌∙◌}
use Prim.Native.Nat.{ℕ, ◌+◌, ◌-◌, ◌≤◌}
use native.Mathlib.Omega.{arith}
use borrow.Rule.Slice.PartMut.{same_len_mid}
use lib.ListN.{length, take}
use Rattle.model.specs.Format.{table_of}
use Rattle.model.proofs.RawExact.{few_points}
use Rattle.arrays.specs.Put.{put}
use Rattle.points.proofs.AllLaws.{few_here}
use Rattle.lists.specs.Lists.{places_at}
use Rattle.lists.proofs.Fronts.{lent_length}
use Rattle.lists.proofs.PlannedLaws.{planned}
use Rattle.lists.proofs.put_all.Goals as goal

pub put_first-requires : goal.put_first-requires
put_first-requires c =
    let p = c.requires in
    (p.0, p.3, p.5)

pub copy-requires : goal.copy-requires
copy-requires c =
    let p = c.requires in
    let one = c.put_first in
    (omega (arith, p.1.points, p.5, one.auto.lists), omega (arith, p.1.points, p.4))

pub mark_all-requires : goal.mark_all-requires
mark_all-requires c =
    let a = c.args in
    let p = c.requires in
    let one = c.put_first in
    let two = c.copy in
    let three = c.put_lists-c in
    let long : length three.new.lists ≡ length a.lists.now = three.auto.lists ∙ two.auto.out in
    let fit : three.result + 16 ≤ length three.new.lists = omega (arith, three.ensures.0, long, p.4) in
    (p.0, p.1.counts, one.ensures.1, one.ensures.0, omega (arith, lent_length (three.result + 16) three.new.lists fit, three.ensures.0, long, p.4))

pub returns : goal.returns
returns c =
    let a = c.args in
    let p = c.requires in
    let s = a.t.now in
    let t = table_of s in
    let few = few_points s p.0 in
    let one = c.put_first in
    let two = c.copy in
    let three = c.put_lists-c in
    let four = c.mark_all in
    let at = three.result + 16 in
    let long : length three.new.lists ≡ length a.lists.now = three.auto.lists ∙ two.auto.out in
    let last = same_len_mid at (length three.new.lists - at) three.new.lists four.new.marks four.auto.marks in
    let e = two.ensures ∙ ap (λ (n : ℕ). put 0 (take (places_at n) one.new.lists) a.lists.now) p.1.points in (
      planned t (few_here s p.0) one.new.plan one.new.lists a.lists.now two.new.out three.new.lists four.new.marks few (omega (arith, long, p.4)) (omega (arith, p.5, one.auto.lists)) (omega (arith, p.4)) one.ensures.0 one.ensures.1 e three.ensures.2 three.ensures.1 four.ensures at (omega (arith, three.ensures.0)) last,
      one.auto.plan,
      last ∙ long,
    )
