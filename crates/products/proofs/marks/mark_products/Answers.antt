use Prim.Native.Nat.{◌+◌}
use native.Mathlib.Omega.{arith}
use Rattle.model.specs.Format.{byte}
use Rattle.products.specs.Marks.{longest_bin}
use Rattle.products.proofs.Longest.{longest-few, room_most}
use Rattle.products.proofs.Exact.{cross_placed}
use Rattle.products.proofs.marks.mark_products.Goals as goal

pub overflow_mul-room : goal.overflow_mul-room
overflow_mul-room c =
    let a = c.args in
    let pre = c.requires in
    let s = a.plan.table.now in
    let p = a.x.place in
    let few = longest-few s p.cross p.bins p.tokens (byte s (p.cross + 12)) (cross_placed s p pre.0.stands).legal in
    omega (arith, room_most c.longest_bin-m.result a.x.shape.total (omega (arith, few, c.longest_bin-m.ensures)) pre.0.fits.whole.small)

pub marks_in-requires-2-clause-room : goal.marks_in-requires-2-clause-room
marks_in-requires-2-clause-room c =
    let a = c.args in
    let pre = c.requires in
    let s = a.plan.table.now in
    let p = a.x.place in
    let few = longest-few s p.cross p.bins p.tokens (byte s (p.cross + 12)) (cross_placed s p pre.0.stands).legal in
    (omega (arith, room_most (longest_bin s p) a.x.shape.total few pre.0.fits.whole.small), omega (arith, few))
