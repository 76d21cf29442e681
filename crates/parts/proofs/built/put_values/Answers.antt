use native.Mathlib.Omega.{arith}
use Rattle.parts.proofs.OwnLaws.{spans-fit-at, spans-ready, spans_room, spans-count, spans_on, part_length}
use borrow.Author.Rules.{rules}
use Rattle.parts.proofs.built.put_values.Goals as goal

pub settle_spans-k-requires : goal.settle_spans-k-requires
settle_spans-k-requires c =
    let a = c.args in
    (omega arith, omega (arith, c.read2-n.ensures, c.requires.at_bound.4.some), omega (arith, c.read2-n.ensures, c.requires.ranges_in_bounds.2), c.requires.ranges_in_bounds.3, spans-fit-at a.t.now a.b.low a.b.at a.b.ranges c.read2-n.result c.read2-n.ensures c.requires.at_bound.3 c.requires.at_bound.4)

pub slice_bounds-sizes_of-end-2 : goal.slice_bounds-sizes_of-end-2
slice_bounds-sizes_of-end-2 c = part_length _ _ (search rules)

pub sizes_of-count-requires : goal.sizes_of-count-requires
sizes_of-count-requires c =
    let a = c.args in
    spans-ready a.t.now a.b.low a.b.at a.b.ranges c.read2-n.result c.read2-n.ensures c.requires.at_bound.3 c.requires.at_bound.4 _ c.settle_spans-k.ensures.1

pub overflow_sub-d : goal.overflow_sub-d
overflow_sub-d c =
    let a = c.args in
    omega (arith, (spans-count a.t.now a.b.low a.b.at a.b.ranges c.read2-n.result c.read2-n.ensures c.requires.at_bound.3 c.requires.at_bound.4 _ c.settle_spans-k.ensures.1 _ c.sizes_of-count.ensures).1)

pub slice_bounds-put_spans-end-2 : goal.slice_bounds-put_spans-end-2
slice_bounds-put_spans-end-2 c = part_length _ _ (search rules)

pub put_spans-at-requires : goal.put_spans-at-requires
put_spans-at-requires c =
    let a = c.args in
    let ready = spans-ready a.t.now a.b.low a.b.at a.b.ranges c.read2-n.result c.read2-n.ensures c.requires.at_bound.3 c.requires.at_bound.4 _ c.settle_spans-k.ensures.1 in
    (spans_room a.t.now a.b.low a.b.at a.b.ranges c.read2-n.result c.read2-n.ensures c.requires.at_bound.3 c.requires.at_bound.4 _ c.settle_spans-k.ensures.1 _ _ c.requires.ranges_in_bounds.0, c.requires.at_bound.2, ready.0, ready.1)

pub overflow_add-result : goal.overflow_add-result
overflow_add-result c =
    let a = c.args in
    omega (arith, (spans-count a.t.now a.b.low a.b.at a.b.ranges c.read2-n.result c.read2-n.ensures c.requires.at_bound.3 c.requires.at_bound.4 _ c.settle_spans-k.ensures.1 _ c.sizes_of-count.ensures).0, c.requires.ranges_in_bounds.1)

pub returns : goal.returns
returns c =
    let a = c.args in
    spans_on a.t.now a.b.low a.b.at a.b.ranges c.read2-n.result c.read2-n.ensures c.requires.at_bound.3 c.requires.at_bound.4 _ c.settle_spans-k.ensures.1 a.next.at a.next.first _ _ _ _ c.sizes_of-count.ensures c.put_spans-at.ensures.0 c.put_spans-at.ensures.1
