use mathlib.Core.Path.{sym, ap, ◌∙◌}
use Prim.Native.Nat.{◌+◌}
use native.Mathlib.Omega.{arith}
use lib.ListN.{length, replicate, length-append, length-replicate}
use Rattle.model.specs.Counters.{product_count}
use Rattle.model.specs.Format.{table_of}
use Rattle.arrays.proofs.Written.{both-written}
use Rattle.products.proofs.Exact.{cross_placed}
use Rattle.crosses.specs.Flags.{heads_at}
use Rattle.crosses.specs.Labels.{bin_labels}
use Rattle.crosses.proofs.Laws.{labels-parts}
use Rattle.crosses.proofs.labels.put_cross_labels.Goals as goal

pub overflow_add-at : goal.overflow_add-at
overflow_add-at c = omega (arith, (cross_placed c.args.t.now c.args.p c.requires.stands.0).near.0)

pub put_labels-next-requires : goal.put_labels-next-requires
put_labels-next-requires c =
    let a = c.args in
    let pre = c.requires in
    let k = c.byte-k in
    let h = c.shape_of-s in
    let z = labels-parts a.t.now a.e.cover a.e.illegal a.e.product a.p.cross a.p.bins k.result h.result.total (product_count (table_of a.t.now) a.p.number) k.ensures h.ensures.products in
    let long = ap length z ∙ length-append (bin_labels a.e.cover a.e.illegal (heads_at a.t.now a.p.bins k.result)) (replicate h.result.total a.e.product) in
    (omega (arith, (cross_placed a.t.now a.p pre.stands.0).near.1), omega arith, omega (arith, long, pre.bins_in_bounds))

pub put_same-requires : goal.put_same-requires
put_same-requires c =
    let a = c.args in
    let pre = c.requires in
    let k = c.byte-k in
    let h = c.shape_of-s in
    let z = labels-parts a.t.now a.e.cover a.e.illegal a.e.product a.p.cross a.p.bins k.result h.result.total (product_count (table_of a.t.now) a.p.number) k.ensures h.ensures.products in
    let long = ap length z ∙ length-append (bin_labels a.e.cover a.e.illegal (heads_at a.t.now a.p.bins k.result)) (replicate h.result.total a.e.product) in
    let q = c.put_labels-next in
    omega (arith, long, length-replicate h.result.total a.e.product, pre.bins_in_bounds, q.ensures.0, q.auto.out)

pub returns : goal.returns
returns c =
    let a = c.args in
    let pre = c.requires in
    let k = c.byte-k in
    let h = c.shape_of-s in
    let z = labels-parts a.t.now a.e.cover a.e.illegal a.e.product a.p.cross a.p.bins k.result h.result.total (product_count (table_of a.t.now) a.p.number) k.ensures h.ensures.products in
    let q = c.put_labels-next in
    let r = c.put_same in
    both-written a.cur q.result r.result _ _ _ a.out.now q.new.out r.new.xs z pre.bins_in_bounds q.ensures.0 q.ensures.1
    (r.ensures.0 ∙ ap (q.result +◌) (sym (length-replicate h.result.total a.e.product))) r.ensures.1
