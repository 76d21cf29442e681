use Rattle.std.proofs.Common.{length, take, length-take, arith}
use Rattle.places.specs.Places.{of_kind}
use Rattle.places.proofs.PlaceLaws.{places-few}
use Rattle.replay.proofs.entries.take_all.Goals as goal

pub put_illegals-n-requires-clause-room : goal.put_illegals-n-requires-clause-room
put_illegals-n-requires-clause-room c = omega (arith, places-few (of_kind 2) 0 c.args.kinds.now)

pub invariant_of-illegals : goal.invariant_of-illegals
invariant_of-illegals c = record { few = omega (arith, places-few (of_kind 2) 0 c.args.kinds.now, c.put_illegals-n.ensures.count) }
