use mathlib.Core.Path.{refl}
use Prim.Native.Nat.{◌+◌}
use native.Mathlib.Omega.{arith}
use Rattle.arrays.proofs.Written.{written_start, written_end, written-room, written-turn}
use Rattle.spans.specs.Point.{free_value}
use Rattle.pieces.specs.Cuts.{left_of, piece_words}
use Rattle.pieces.proofs.WordLaws.{cuts_turn, cuts_end}
use Rattle.pieces.proofs.cuts.put_cuts.Goals as goal
use Rattle.pieces.proofs.cuts.put_cuts.Invariants.{left}

pub loop-j-init : goal.loop-j-init
loop-j-init c = written_start _ _ _ _ refl

pub cut_at-cut-requires : goal.cut_at-cut-requires
cut_at-cut-requires c = (c.requires.spans_value.2, omega arith)

pub put_left-e-requires : goal.put_left-e-requires
put_left-e-requires c =
    let a = c.args in
    let q = c.requires in
    let l = c.loop-j in
    let k = c.cut_at-cut.ensures in
    let r = c.cut_at-cut.result in
    record { spans_value = (q.spans_value.0, omega (arith, q.spans_value.1), omega (arith, q.spans_value.2.high), omega (arith, q.spans_value.2.high, k.5), omega (arith, q.spans_value.2.room, k.2)); part_in_bounds = written-room _ _ _ _ _ _ l.invariant q.from_in_bounds (piece_words (left_of (free_value a.spans.now a.low) r.low r.high r.part)) (left a.spans.now a.low a.c.lo a.c.hi a.c.before a.c.share a.c.first a.c.top (l.j + 1)) (cuts_turn (free_value a.spans.now a.low) a.c.lo a.c.hi a.c.before a.c.share a.c.first a.c.top l.j _ _ _ k.0 k.1 k.2 (omega arith)) }

pub loop-j-preserved : goal.loop-j-preserved
loop-j-preserved c =
    let a = c.args in
    let q = c.requires in
    let l = c.loop-j in
    let k = c.cut_at-cut.ensures in
    let w = c.put_left-e.ensures in
    written-turn _ _ _ _ _ _ l.invariant q.from_in_bounds _ _ (cuts_turn (free_value a.spans.now a.low) a.c.lo a.c.hi a.c.before a.c.share a.c.first a.c.top l.j _ _ _ k.0 k.1 k.2 (omega arith)) _ _ w.0 w.1

pub returns : goal.returns
returns c =
    let a = c.args in
    let l = c.loop-j in
    written_end _ _ _ _ _ _ l.invariant (cuts_end (free_value a.spans.now a.low) a.c.lo a.c.hi a.c.before a.c.share a.c.first a.c.top l.j (omega arith))

-- after the last part
pub returns-2 : goal.returns-2
returns-2 c =
    let a = c.args in
    let q = c.requires in
    let l = c.loop-j in
    let k = c.cut_at-cut.ensures in
    let w = c.put_left-e.ensures in
    written_end _ _ _ _ _ _
    (written-turn _ _ _ _ _ _ l.invariant q.from_in_bounds _ (left a.spans.now a.low a.c.lo a.c.hi a.c.before a.c.share a.c.first a.c.top (l.j + 1)) (cuts_turn (free_value a.spans.now a.low) a.c.lo a.c.hi a.c.before a.c.share a.c.first a.c.top l.j _ _ _ k.0 k.1 k.2 (omega arith)) _ _ w.0 w.1)
    (cuts_end (free_value a.spans.now a.low) a.c.lo a.c.hi a.c.before a.c.share a.c.first a.c.top (l.j + 1) (omega arith))
