use mathlib.Core.Path.{sym, ap, ◌∙◌}
use Prim.Native.Nat.{◌+◌}
use native.Mathlib.Omega.{arith}
use Rattle.arrays.proofs.Written.{both-written}
use Rattle.crosses.proofs.Laws.{cross_parts, cross_parts_length, length-products}
use Rattle.crosses.proofs.bins.put_cross.Goals as goal

pub put_bins-at-requires : goal.put_bins-at-requires
put_bins-at-requires c =
    let a = c.args in
    let p = c.requires in
    let z = cross_parts_length a.t.now a.sample.now a.ask.total a.x.cross a.x.bins a.x.products a.hits.now a.marks.now c.byte.result c.byte-k.result c.mask_of.result c.own_marks.result c.every_mark.result c.passing-live.result c.byte.ensures c.byte-k.ensures c.passing-live.ensures c.mask_of.ensures c.own_marks.ensures c.every_mark.ensures p.products_in_bounds.0 p.products_in_bounds.1 in
    (omega arith, omega arith, omega (arith, z, p.products_in_bounds.2))

pub put_products-requires : goal.put_products-requires
put_products-requires c =
    let a = c.args in
    let p = c.requires in
    let q = c.put_bins-at in
    let z = cross_parts_length a.t.now a.sample.now a.ask.total a.x.cross a.x.bins a.x.products a.hits.now a.marks.now c.byte.result c.byte-k.result c.mask_of.result c.own_marks.result c.every_mark.result c.passing-live.result c.byte.ensures c.byte-k.ensures c.passing-live.ensures c.mask_of.ensures c.own_marks.ensures c.every_mark.ensures p.products_in_bounds.0 p.products_in_bounds.1 in
    (p.products_in_bounds.0, p.products_in_bounds.1, omega (arith, z, p.products_in_bounds.2, q.ensures.0, q.auto.flags))

pub returns : goal.returns
returns c =
    let a = c.args in
    let p = c.requires in
    let q = c.put_bins-at in
    let r = c.put_products in
    let live = c.passing-live.result in
    let z = cross_parts a.t.now a.sample.now a.ask.total a.x.cross a.x.bins a.x.products a.hits.now a.marks.now c.byte.result c.byte-k.result c.mask_of.result c.own_marks.result c.every_mark.result c.passing-live.result c.byte.ensures c.byte-k.ensures c.passing-live.ensures c.mask_of.ensures c.own_marks.ensures c.every_mark.ensures in
    both-written a.ask.at q.result r.result _ _ _ a.flags.now q.new.flags r.new.flags z p.products_in_bounds.2 q.ensures.0 q.ensures.1
    (r.ensures.0 ∙ ap (q.result +◌) (sym (length-products live a.x.products a.hits.now a.marks.now p.products_in_bounds.0 p.products_in_bounds.1))) r.ensures.1
