use native.Mathlib.Omega.{arith}
use Rattle.spans.proofs.Point.{ranges_most}
use Rattle.pieces.proofs.build.put_sized.Goals as goal

pub put_in-requires : goal.put_in-requires
put_in-requires c =
    let q = c.requires in
    (q.0, q.1, q.2, omega (arith, q.3, c.if-n-le64.true), q.4, omega arith)

pub put_in-requires-then-n-le256 : goal.put_in-requires-then-n-le256
put_in-requires-then-n-le256 c =
    let q = c.requires in
    (q.0, q.1, q.2, omega (arith, q.3, c.if-n-le256.true), q.4, omega arith)

pub put_in-requires-else-n-le256 : goal.put_in-requires-else-n-le256
put_in-requires-else-n-le256 c =
    let q = c.requires in
    (q.0, q.1, q.2, ranges_most c.args.t.now q.0, q.4, omega arith)
