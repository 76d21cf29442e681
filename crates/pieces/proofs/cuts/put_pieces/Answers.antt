use mathlib.Core.Path.{sym, ap, ◌∙◌, subst}
use Prim.Native.Nat.{◌+◌, ◌-◌, ◌*◌, ◌≤◌}
use native.Mathlib.Omega.{arith}
use lib.ListN.{length}
use Rattle.arrays.proofs.Written.{written_start, written_end, written-room, written-turn}
use Rattle.spans.specs.Point.{free_value}
use Rattle.parts.specs.Words.{plan_row_at, plan_rows_at}
use Rattle.parts.proofs.RaiseLaws.{row_in}
use Rattle.pieces.specs.Cuts.{row_pieces, all_pieces, piece_words, Cuttable, row_of}
use Rattle.pieces.proofs.WordLaws.{words_length, rows_start, rows_turn, rows_end, row_kept}
use Rattle.pieces.proofs.cuts.put_pieces.Goals as goal
use Rattle.pieces.proofs.cuts.put_pieces.Invariants.{left}

pub loop-i-init : goal.loop-i-init
loop-i-init c =
    let a = c.args in
    (written_start _ _ _ _ (rows_start (free_value a.spans.now a.low) a.out.now a.from a.n), omega arith)

pub row_at-r-requires : goal.row_at-r-requires
row_at-r-requires c =
    let q = c.requires in
    let l = c.loop-i in
    omega (arith, q.n_bound.1, q.n_in_bounds, l.invariant.0.kept)

pub put_row-e-requires : goal.put_row-e-requires
put_row-e-requires c =
    let a = c.args in
    let q = c.requires in
    let l = c.loop-i in
    let o = c.row_at-r.result in
    let fit : a.at + length (left a.out.now a.spans.now a.low a.from a.n) ≤ length a.out.now = omega (arith, q.n_in_bounds, words_length (all_pieces (free_value a.spans.now a.low) (plan_rows_at a.out.now a.from a.n))) in
    let r = c.row_at-r.ensures ∙ row_kept _ _ _ _ _ _ l.invariant.0 fit l.invariant.1 (a.from + 7 * l.i) (omega (arith, q.n_bound.1)) in record {
      spans_value = (q.n_bound.2, subst (Cuttable a.low) (sym r) (row_in (Cuttable a.low) (plan_row_at a.out.now) 7 a.from a.n q.n_bound.3 l.i (omega arith)));
      share_in_bounds = written-room _ _ _ _ _ _ l.invariant.0 fit
          (piece_words (row_pieces (free_value a.spans.now a.low) (row_of o)))
          (left a.out.now a.spans.now a.low (a.from + 7 * (l.i + 1)) (a.n - (l.i + 1)))
          (rows_turn (free_value a.spans.now a.low) a.out.now a.from a.n l.i _ r (omega arith));
    }

pub loop-i-preserved : goal.loop-i-preserved
loop-i-preserved c =
    let a = c.args in
    let q = c.requires in
    let l = c.loop-i in
    let w = c.put_row-e.ensures in
    let fit : a.at + length (left a.out.now a.spans.now a.low a.from a.n) ≤ length a.out.now = omega (arith, q.n_in_bounds, words_length (all_pieces (free_value a.spans.now a.low) (plan_rows_at a.out.now a.from a.n))) in
    let r = c.row_at-r.ensures ∙ row_kept _ _ _ _ _ _ l.invariant.0 fit l.invariant.1 (a.from + 7 * l.i) (omega (arith, q.n_bound.1)) in
    (written-turn _ _ _ _ _ _ l.invariant.0 fit _ _ (rows_turn (free_value a.spans.now a.low) a.out.now a.from a.n l.i _ r (omega arith)) _ _ w.0 w.1, omega (arith, w.0, l.invariant.1))

pub returns : goal.returns
returns c =
    let a = c.args in
    let l = c.loop-i in
    let e = written_end _ _ _ _ _ _ l.invariant.0 (rows_end (free_value a.spans.now a.low) a.out.now a.from a.n l.i (omega arith)) in
    (e.0 ∙ ap (a.at +◌) (words_length (all_pieces (free_value a.spans.now a.low) (plan_rows_at a.out.now a.from a.n))), e.1)
