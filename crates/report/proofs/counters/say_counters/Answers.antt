use Rattle.std.proofs.Common.{arith}
use Rattle.model.specs.Format.{table_of}
use Rattle.sampling.proofs.Joins.{largest-room, labelled}
use Rattle.report.proofs.counters.say_counters.Goals as goal

pub put_kinds-x-requires : goal.put_kinds-x-requires
put_kinds-x-requires c =
    let room = largest-room c.args.s.now.table.now c.requires in
    (c.requires, (omega (arith, room), omega (arith, room)))

pub put_items-requires : goal.put_items-requires
put_items-requires c =
    let room = largest-room c.args.s.now.table.now c.requires in
    (c.requires, (omega (arith, room), omega (arith, room)), c.put_kinds-x.ensures.0)

pub put_totals-requires : goal.put_totals-requires
put_totals-requires c =
    let room = largest-room c.args.s.now.table.now c.requires in
    let k = c.put_kinds-x in
    (c.requires, (omega (arith, room), omega (arith, room)), k.ensures.0, labelled (table_of c.args.s.now.table.now) _ k.new.kinds k.ensures.1 k.auto.kinds)
