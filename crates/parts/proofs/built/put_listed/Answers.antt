use native.Mathlib.Omega.{arith}
use Rattle.parts.specs.Words.{source_at}
use Rattle.parts.proofs.OwnLaws.{count-some, listed-light, listed-room, listed-on}
use Rattle.parts.proofs.built.put_listed.Goals as goal

pub overflow_sub-d : goal.overflow_sub-d
overflow_sub-d c =
    let a = c.args in
    let q = source_at a.t.now a.b.low a.b.at a.b.ranges in
    omega (arith, c.listed_count-count.ensures, count-some q.form q.ranges c.requires.at_bound.3.deals)

pub put_ranges-at-requires : goal.put_ranges-at-requires
put_ranges-at-requires c =
    let a = c.args in
    (omega arith, omega arith, listed-room a.t.now a.b.low a.b.at a.b.ranges c.read2-n.result c.read2-n.ensures c.requires.at_bound.2 _ _ c.requires.ranges_in_bounds.0, listed-light a.t.now a.b.low a.b.at a.b.ranges c.read2-n.result c.read2-n.ensures c.requires.at_bound.2 c.requires.at_bound.3)

pub overflow_add-result : goal.overflow_add-result
overflow_add-result c =
    omega (arith, c.listed_count-count.ensures, c.requires.ranges_in_bounds.1)

pub returns : goal.returns
returns c =
    let a = c.args in
    listed-on a.t.now a.b.low a.b.at a.b.ranges c.read2-n.result c.read2-n.ensures c.requires.at_bound.2 a.next.at a.next.first _ _ _ _ _ c.listed_count-count.ensures c.bin_share-share.ensures c.put_ranges-at.ensures.0 c.put_ranges-at.ensures.1
