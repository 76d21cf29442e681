use mathlib.Core.Path.{◌≡◌, refl, sym, ◌∙◌}
use Prim.Native.Nat.{◌+◌, ◌-◌, ◌*◌, ◌<◌}
use native.Mathlib.Omega.{arith}
use native.Mathlib.Nat.{zero-add}
use Rattle.parts.proofs.OwnLaws.{fits_here, listed_here, words_room, words_length, words_put, parts_step, words_done}
use borrow.Author.Rules.{rules}
use Rattle.parts.proofs.built.put_bins.Goals as goal

pub loop-i-init : goal.loop-i-init
loop-i-init c =
    let e : c.args.l.count - 0 ≡ c.args.l.count = omega arith in
    let here : c.args.l.bins + 8 * 0 ≡ c.args.l.bins = omega arith in
    rw here (omega arith, omega arith, refl, refl, refl, rw e c.requires.bins_bound.4, rw e, rw (e, zero-add), rw e, rw e c.requires.count_in_bounds.2)

pub put_own_bin-next-requires : goal.put_own_bin-next-requires
put_own_bin-next-requires c =
    let a = c.args in
    let l = c.loop-i in
    let less : l.i < a.l.count = omega (arith, c.loop-i-test.true) in
    let fit = fits_here a.t.now a.q.low a.q.point (a.l.bins + 8 * l.i) l.ranges a.l.count l.i c.read2-k.result c.is_own-own.result less c.is_own-own.ensures c.read2-k.ensures l.invariant.5 in
    let some = listed_here a.t.now a.q.low a.q.point (a.l.bins + 8 * l.i) l.ranges a.l.count l.i c.read2-k.result c.is_own-own.result less c.is_own-own.ensures c.read2-k.ensures _ l.invariant.9 in
    let room = words_room a.t.now a.q.low a.q.point (a.l.bins + 8 * l.i) l.ranges a.l.count l.i c.read2-k.result c.is_own-own.result less c.is_own-own.ensures c.read2-k.ensures l.next.first l.next.at _ l.invariant.6 in
    record { at_bound = (omega arith, omega arith, c.requires.bins_bound.3, fit.0); ranges_in_bounds = (omega (arith, room, c.requires.count_in_bounds.0, l.invariant.2), omega (arith, parts_step a.t.now a.q.low a.q.point (a.l.bins + 8 * l.i) l.ranges a.l.count l.i c.read2-k.result c.is_own-own.result less c.is_own-own.ensures c.read2-k.ensures, l.invariant.7, c.requires.count_in_bounds.1), omega (arith, some.0, l.invariant.3), omega (arith, c.requires.count_in_bounds.3, l.invariant.3, l.invariant.4)) }

pub loop-i-preserved : goal.loop-i-preserved
loop-i-preserved c =
    let a = c.args in
    let l = c.loop-i in
    let e = c.put_own_bin-next.ensures in
    let less : l.i < a.l.count = omega (arith, c.loop-i-test.true) in
    let fit = fits_here a.t.now a.q.low a.q.point (a.l.bins + 8 * l.i) l.ranges a.l.count l.i c.read2-k.result c.is_own-own.result less c.is_own-own.ensures c.read2-k.ensures l.invariant.5 in
    let room = words_room a.t.now a.q.low a.q.point (a.l.bins + 8 * l.i) l.ranges a.l.count l.i c.read2-k.result c.is_own-own.result less c.is_own-own.ensures c.read2-k.ensures l.next.first l.next.at _ l.invariant.6 in
    let next : a.l.bins + 8 * (l.i + 1) ≡ a.l.bins + 8 * l.i + 8 = omega arith in
    rw next (
      omega arith,
      omega arith,
      search rules,
      search rules,
      search rules,
      fit.1,
      words_length a.t.now a.q.low a.q.point (a.l.bins + 8 * l.i) l.ranges a.l.count l.i c.read2-k.result c.is_own-own.result less c.is_own-own.ensures c.read2-k.ensures l.next.first _ l.next.at _ _ e.1 e.0 l.invariant.6,
      omega (arith, e.1, parts_step a.t.now a.q.low a.q.point (a.l.bins + 8 * l.i) l.ranges a.l.count l.i c.read2-k.result c.is_own-own.result less c.is_own-own.ensures c.read2-k.ensures, l.invariant.7),
      words_put a.t.now a.q.low a.q.point (a.l.bins + 8 * l.i) l.ranges a.l.count l.i c.read2-k.result c.is_own-own.result less c.is_own-own.ensures c.read2-k.ensures l.next.first _ l.next.at _ l.out _ e.1 e.0 (omega (arith, room, c.requires.count_in_bounds.0, l.invariant.2)) e.2 ∙ l.invariant.8,
      (listed_here a.t.now a.q.low a.q.point (a.l.bins + 8 * l.i) l.ranges a.l.count l.i c.read2-k.result c.is_own-own.result less c.is_own-own.ensures c.read2-k.ensures _ l.invariant.9).1,
    )

pub returns : goal.returns
returns c =
    let a = c.args in
    let l = c.loop-i in
    let done = words_done a.t.now a.q.low a.q.point (a.l.bins + 8 * l.i) l.ranges a.l.count l.next.first l.i l.next.at l.out (omega arith) in
    (omega (arith, done.1, l.invariant.6), omega (arith, done.2, l.invariant.7), sym done.0 ∙ l.invariant.8)
