use mathlib.Core.Path.{refl, ◌∙◌}
use native.Mathlib.Omega.{arith}
use native.Mathlib.Nat.{sub-zero}
use lib.ListN.{length-set}
use Rattle.model.specs.Figures.{item_count, at_least}
use Rattle.model.specs.Format.{table_of}
use Rattle.arrays.proofs.Written.{fill-turn, fill_end}
use Rattle.coverage.specs.Items.{leasts_of}
use Rattle.coverage.proofs.ItemLaws.{items_few, least-own, own-count}
use Rattle.coverage.proofs.items.put_leasts.Goals as goal

pub loop-i-init : goal.loop-i-init
unfolding leasts_of
loop-i-init c = (omega arith, refl, rw (sub-zero (item_count (table_of c.args.t.now))))

pub bounds-leasts-i : goal.bounds-leasts-i
bounds-leasts-i c =
    let s = c.args.t.now in
    let r = c.records_of-r in
    omega (arith, items_few s c.requires.0, own-count s c.requires.0 r.result r.ensures, c.count-n.ensures, c.loop-i.invariant.1, c.requires.1)

pub loop-i-preserved : goal.loop-i-preserved
loop-i-preserved c =
    let l = c.loop-i in
    let s = c.args.t.now in
    let ok = c.requires.0 in
    let r = c.records_of-r in
    let n = own-count s ok r.result r.ensures in (
      omega (arith, n, c.count-n.ensures),
      simp length-set l.invariant.1,
      fill-turn (at_least (table_of s)) l.i l.i (item_count (table_of s)) l.i c.least_at.result l.leasts _ l.invariant.2 (c.least_at.ensures ∙ least-own s ok r.result r.ensures l.i) (omega (arith, n, c.count-n.ensures)) (omega (arith, n, c.count-n.ensures, items_few s ok, l.invariant.1, c.requires.1)),
    )

pub returns : goal.returns
returns c =
    let l = c.loop-i in
    let s = c.args.t.now in
    let r = c.records_of-r in
    fill_end (at_least (table_of s)) l.i l.i (item_count (table_of s)) l.i l.leasts _ l.invariant.2 (omega (arith, own-count s c.requires.0 r.result r.ensures, c.count-n.ensures))
