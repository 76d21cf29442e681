-- `take::next_run` meets its contract. Assumes nothing.
use mathlib.Core.Path.{sym, ◌∙◌}
use Rattle.sequences.proofs.Sequences.{next_run-read, next_run-skipped}
use Rattle.arrays.specs.Flat.{reading_from}
use Rattle.runs.proofs.take.next_run.Goals as goal

pub returns-then-is_skipped : goal.returns-then-is_skipped
returns-then-is_skipped c =
    let a = c.args in
    λ ss e f. sym (next_run-skipped ss a.words.now (reading_from a.reading) (sym c.is_skipped.ensures ∙ c.if-is_skipped.true))

pub returns : goal.returns
returns c =
    let a = c.args in
    let x = reading_from a.reading in
    λ ss e f. c.write_run.ensures ss x e (c.admitted_by-bits.ensures ss f) ∙ sym (next_run-read ss a.words.now x (sym c.is_skipped.ensures ∙ c.if-is_skipped.false))
