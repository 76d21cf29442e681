use Rattle.std.proofs.Common.{arith, rules}
use Rattle.ranges.proofs.SizeLaws.{sizes_start, sizes-done, sizes-room, sizes-on}
use Rattle.ranges.proofs.sizes.sizes_at.Goals as goal

pub loop-i-init : goal.loop-i-init
loop-i-init c = (search rules, search rules, search rules, sizes_start c.args.t.now c.args.n c.args.start)

pub overflow_add-sum : goal.overflow_add-sum
overflow_add-sum c =
    let l = c.loop-i in
    let a = c.args in
    let pre = c.requires in
    let room = sizes-room a.t.now a.n l.at l.i _ l.sum l.invariant.3 c.size_at-sum.result (search rules) pre.2 c.size_at-sum.ensures in
    omega arith

pub loop-i-preserved : goal.loop-i-preserved
loop-i-preserved c =
    let l = c.loop-i in
    let a = c.args in
    let pre = c.requires in
    let room = sizes-room a.t.now a.n l.at l.i _ l.sum l.invariant.3 c.size_at-sum.result (search rules) pre.2 c.size_at-sum.ensures in
    (search rules, search rules, room, sizes-on a.t.now a.n l.at l.i _ l.sum l.invariant.3 c.size_at-sum.result (search rules) pre.2 c.size_at-sum.ensures)

pub returns : goal.returns
returns c = sizes-done c.args.t.now c.args.n c.loop-i.at c.loop-i.i _ c.loop-i.sum c.loop-i.invariant.3 (search rules)
