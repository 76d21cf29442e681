use mathlib.Core.Path.{refl, ◌∙◌}
use native.Mathlib.Omega.{arith}
use Rattle.model.specs.Figures.{item_count}
use Rattle.model.specs.Format.{table_of}
use Rattle.figures.proofs.Sums.{items_start, items-on, figure-done}
use Rattle.coverage.specs.Items.{item_with, mean_of, Within}
use Rattle.coverage.proofs.ItemLaws.{items_few, weight-own, own-count}
use Rattle.coverage.proofs.items.mean.Goals as goal

pub loop-i-init : goal.loop-i-init
loop-i-init c =
    let a = c.args in
    let t = table_of a.t.now in
    let g = c.new-g in
    (omega arith, omega (arith, g.ensures.1), g.ensures.2, items_start (item_with t a.tallies.now) (item_count t) g.result g.ensures.0)

pub bounds-tallies-i : goal.bounds-tallies-i
bounds-tallies-i c =
    let s = c.args.t.now in
    let r = c.records_of-r in
    omega (arith, items_few s c.requires.0, own-count s c.requires.0 r.result r.ensures, c.count-n.ensures, c.requires.1)

pub with_item-g-requires : goal.with_item-g-requires
unfolding Within
with_item-g-requires c =
    let l = c.loop-i in
    let s = c.args.t.now in
    let r = c.records_of-r in
    let n = own-count s c.requires.0 r.result r.ensures in
    (omega (arith, items_few s c.requires.0, n, c.count-n.ensures, l.invariant.1), l.invariant.2, c.requires.2 l.i (omega (arith, n, c.count-n.ensures)))

pub loop-i-preserved : goal.loop-i-preserved
loop-i-preserved c =
    let l = c.loop-i in
    let s = c.args.t.now in
    let ok = c.requires.0 in
    let r = c.records_of-r in
    let q = c.with_item-g in
    let n = own-count s ok r.result r.ensures in (
      omega (arith, n, c.count-n.ensures),
      omega (arith, q.ensures.1, l.invariant.1),
      q.ensures.2,
      items-on (item_with (table_of s) c.args.tallies.now) (item_count (table_of s)) l.i l.g _ l.invariant.3 c.weight_at-w.result _ _ q.result (omega (arith, n, c.count-n.ensures)) (c.weight_at-w.ensures ∙ weight-own s ok r.result r.ensures l.i) refl refl q.ensures.0,
    )

pub figure-requires : goal.figure-requires
figure-requires c = c.loop-i.invariant.2

pub returns : goal.returns
unfolding mean_of
returns c =
    let l = c.loop-i in
    let s = c.args.t.now in
    let r = c.records_of-r in
    figure-done (item_with (table_of s) c.args.tallies.now) (item_count (table_of s)) l.i l.g l.invariant.3 (omega (arith, own-count s c.requires.0 r.result r.ensures, c.count-n.ensures)) c.figure.result c.figure.ensures
