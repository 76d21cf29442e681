use mathlib.Core.Path.{refl, ap, subst, ◌∙◌}
use mathlib.Core.List.{List}
use Prim.Native.Nat.{ℕ}
use native.Mathlib.Omega.{arith}
use lib.ListN.{length}
use Rattle.arrays.proofs.Written.{as_written}
use Rattle.spans.specs.Point.{free_value}
use Rattle.parts.specs.declared.rows.Range as range
use Rattle.parts.specs.Rows.{row}
use Rattle.parts.specs.Words.{range_of}
use Rattle.pieces.specs.declared.cuts.Row as code
use Rattle.pieces.specs.Cuts.{row_pieces, piece_words, Cuttable}
use Rattle.pieces.proofs.WordLaws.{row_span, row_pattern, row_fits}
use Rattle.pieces.proofs.cuts.put_row.Goals as goal

-- the words of the row's pieces, and what it asks, by its range
abbrev words : List ℕ → ℕ → code.Row → range.Range → List ℕ
words spans low r x = piece_words (row_pieces (free_value spans low) (row (range_of x) r.before r.first r.last r.share))

abbrev Fit : ℕ → code.Row → range.Range → Type 0
Fit low r x = Cuttable low (row (range_of x) r.before r.first r.last r.share)

pub put_piece-requires : goal.put_piece-requires
put_piece-requires c =
    let a = c.args in
    let r = a.r in
    let p = c.in-Pattern in
    let q = c.requires in
    let e = ap (words a.spans.now a.low r) p.is ∙ row_pattern (free_value a.spans.now a.low) p.bits p.mask r.before r.first r.last r.share _ c.capped-from.ensures in
    (omega (arith, ap length e, q.share_in_bounds), (subst (Fit a.low r) p.is q.spans_value.1).bounds, omega (arith, c.capped-from.ensures, q.spans_value.1.room))

pub returns-in-Pattern : goal.returns-in-Pattern
returns-in-Pattern c =
    let a = c.args in
    let r = a.r in
    let p = c.in-Pattern in
    let w = c.put_piece.ensures in
    as_written a.at _ 2 _ _ a.out.now _ (ap (words a.spans.now a.low r) p.is ∙ row_pattern (free_value a.spans.now a.low) p.bits p.mask r.before r.first r.last r.share _ c.capped-from.ensures) refl w.0 w.1

pub put_cuts-requires : goal.put_cuts-requires
put_cuts-requires c =
    let a = c.args in
    let r = a.r in
    let p = c.in-Span in
    let q = c.requires in
    let t = c.capped-top.ensures in
    let fit = subst (Fit a.low r) p.is q.spans_value.1 in
    let e = ap (words a.spans.now a.low r) p.is ∙ row_span (free_value a.spans.now a.low) p.lo p.hi r.before r.first r.last r.share _ c.capped-from.ensures _ t in
    record { spans_value = (q.spans_value.0, fit.bounds.0, row_fits p.lo p.hi r.before r.first r.last r.share a.low fit _ t); from_in_bounds = omega (arith, ap length e, q.share_in_bounds) }

pub returns-in-Span : goal.returns-in-Span
returns-in-Span c =
    let a = c.args in
    let r = a.r in
    let p = c.in-Span in
    let w = c.put_cuts.ensures in
    as_written a.at _ _ _ _ a.out.now _ (ap (words a.spans.now a.low r) p.is ∙ row_span (free_value a.spans.now a.low) p.lo p.hi r.before r.first r.last r.share _ c.capped-from.ensures _ c.capped-top.ensures) refl w.0 w.1
