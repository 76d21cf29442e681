use Rattle.spans.specs.Point.{free_value}
use mathlib.Core.Path.{refl, ap}
use native.Mathlib.Omega.{arith}
use lib.ListN.{length}
use Rattle.arrays.proofs.Written.{as_written}
use Rattle.pieces.proofs.WordLaws.{left_none, left_words}
use Rattle.pieces.proofs.cuts.put_left.Goals as goal

pub returns-then-c-a : goal.returns-then-c-a
returns-then-c-a c =
    let a = c.args in
    left_none (free_value a.spans.now a.low) a.c.low a.c.high a.c.part _ c.free_value-a.ensures.0 (omega arith) a.at a.out.now

pub put_piece-requires : goal.put_piece-requires
put_piece-requires c =
    let a = c.args in
    let e = left_words (free_value a.spans.now a.low) a.c.low a.c.high a.c.part _ c.free_value-a.ensures.0 (omega arith) in
    let q = c.requires in
    (omega (arith, ap length e, q.part_in_bounds), q.spans_value.3, omega (arith, q.spans_value.4))

pub returns-else-c-a : goal.returns-else-c-a
returns-else-c-a c =
    let a = c.args in
    let e = left_words (free_value a.spans.now a.low) a.c.low a.c.high a.c.part _ c.free_value-a.ensures.0 (omega arith) in
    as_written a.at _ 2 _ _ a.out.now _ e refl c.put_piece.ensures.0 c.put_piece.ensures.1
