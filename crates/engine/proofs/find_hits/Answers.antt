-- `engine::find_hits` meets its contract. Assumes nothing.
use native.Mathlib.Omega.{arith}
use Rattle.layout.proofs.PlaceLaws.{points-total}
use Rattle.model.proofs.RawExact.{few_points}
use Rattle.engine.proofs.find_hits.Goals as goal

pub find_in-requires : goal.find_in-requires
find_in-requires c =
    let p = c.requires in
    let lay = c.point_count-n in
    let n = points-total c.args.t.now p.0 lay.result lay.ensures.value in
    (p.0, p.1, p.2, p.3, p.4, p.5, omega (arith, n, c.if-n-le4), omega arith)

pub find_in-requires-then-n-le8 : goal.find_in-requires-then-n-le8
find_in-requires-then-n-le8 c =
    let p = c.requires in
    let lay = c.point_count-n in
    let n = points-total c.args.t.now p.0 lay.result lay.ensures.value in
    (p.0, p.1, p.2, p.3, p.4, p.5, omega (arith, n, c.if-n-le8), omega arith)

pub find_in-requires-2 : goal.find_in-requires-2
find_in-requires-2 c =
    let p = c.requires in
    (p.0, p.1, p.2, p.3, p.4, p.5, omega (arith, few_points c.args.t.now p.0), omega arith)
