use Rattle.std.proofs.Common.{arith}
use Rattle.sampling.proofs.Joins.{largest-room}
use Rattle.replay.proofs.with_table.Goals as goal

pub put_kinds-requires : goal.put_kinds-requires
put_kinds-requires c =
    let room = largest-room c.args.table.now c.requires.0 in
    (c.requires.0, (omega (arith, room), omega (arith, room)))
