use native.Mathlib.Omega.{arith}
use Rattle.products.proofs.Exact.{cross_placed, shape-small, shape-fits}
use Rattle.products.proofs.places.shape_of.Goals as goal

pub sizes_of-size-requires : goal.sizes_of-size-requires
sizes_of-size-requires c = omega (arith, (cross_placed c.args.t.now c.args.p c.requires.0).near.0)

pub parts_at-first-requires : goal.parts_at-first-requires
parts_at-first-requires c = omega (arith, (cross_placed c.args.t.now c.args.p c.requires.0).four, c.byte-count.ensures)

pub inner_of-inner-requires : goal.inner_of-inner-requires
inner_of-inner-requires c = (omega (arith, (cross_placed c.args.t.now c.args.p c.requires.0).four, c.byte-count.ensures), omega arith)

pub overflow_mul-result : goal.overflow_mul-result
overflow_mul-result c =
    let a = c.args in
    let pre = c.requires in
    let count = c.byte-count in
    let size = c.sizes_of-size in
    let first = c.parts_at-first in
    let inner = c.inner_of-inner in
    omega (arith, shape-small a.t.now a.p pre.0 a.counts.now pre.1 count.result size.result count.ensures size.ensures first.result inner.result first.ensures.0 inner.ensures)

pub returns : goal.returns
returns c =
    let a = c.args in
    let pre = c.requires in
    let count = c.byte-count in
    let size = c.sizes_of-size in
    let first = c.parts_at-first in
    let inner = c.inner_of-inner in
    shape-fits a.t.now a.p pre.0 a.counts.now pre.1 count.result size.result count.ensures size.ensures first.result inner.result first.ensures.0 inner.ensures
