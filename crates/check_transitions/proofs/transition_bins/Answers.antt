use native.Mathlib.Omega.{arith}
use mathlib.Core.Path.{◌∙◌}
use Rattle.words.proofs.Laws.{handed}
use Rattle.check_transitions.proofs.BinLaws.{points-below, bins_end, sequences-end, steps_end, stop_bins, stop-sequences, stop-steps, on-steps}
use borrow.Author.Rules.{rules}
use Rattle.check_transitions.proofs.transition_bins.Goals as goal

pub returns-in_err-fifth : goal.returns-in_err-fifth
returns-in_err-fifth c = handed _ _ c.from_residual.ensures ∙ search (rules, stop_bins)

pub sequence_section-requires : goal.sequence_section-requires
sequence_section-requires c = let h = bins_end _ _ _ _ _ c.in_ok-fifth.ensures c.read2.ensures in (omega (arith, h.1), search rules, omega (arith, h.0, h.1))

pub returns-in_err-sixth : goal.returns-in_err-sixth
returns-in_err-sixth c = handed _ _ c.from_residual-in_err-sixth.ensures ∙ stop-sequences _ _ _ _ _ _ c.in_ok-fifth.ensures c.read2.ensures _ (search rules)

pub overflow_add-q : goal.overflow_add-q
overflow_add-q c = let h = bins_end _ _ _ _ _ c.in_ok-fifth.ensures c.read2.ensures in omega (arith, h.1)

pub step_section-requires : goal.step_section-requires
step_section-requires c =
    let h = bins_end _ _ _ _ _ c.in_ok-fifth.ensures c.read2.ensures in
    let g = sequences-end _ _ _ _ _ c.in_ok-sixth.ensures in
    (omega (arith, g.1), search rules, omega (arith, h.0, h.1), omega (arith, g.0, g.1))

pub returns-in_err-seventh : goal.returns-in_err-seventh
returns-in_err-seventh c = handed _ _ c.from_residual-in_err-seventh.ensures ∙ stop-steps _ _ _ _ _ _ c.in_ok-fifth.ensures c.read2.ensures _ c.in_ok-sixth.ensures _ (search rules)

pub overflow_add-sixth : goal.overflow_add-sixth
overflow_add-sixth c = let g = sequences-end _ _ _ _ _ c.in_ok-sixth.ensures in omega (arith, g.1)

pub step_range_section-requires : goal.step_range_section-requires
step_range_section-requires c =
    let h = bins_end _ _ _ _ _ c.in_ok-fifth.ensures c.read2.ensures in
    let g = sequences-end _ _ _ _ _ c.in_ok-sixth.ensures in
    let f = steps_end _ _ _ _ _ _ c.in_ok-seventh.ensures in
    record {
      at_in_bounds = (omega (arith, f.1), search rules, search rules, omega (arith, h.0, h.1), omega (arith, g.0, g.1), omega (arith, f.0, f.1));
      points_below = (points-below _ _ _ _ _ c.in_ok-fifth.ensures c.read2.ensures, c.requires.4);
    }

pub returns : goal.returns
returns c = on-steps _ _ _ _ _ _ c.in_ok-fifth.ensures c.read2.ensures _ c.in_ok-sixth.ensures _ c.in_ok-seventh.ensures _ c.step_range_section.ensures
