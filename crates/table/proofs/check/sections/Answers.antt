use mathlib.Core.Path.{◌∙◌}
use borrow.Author.Rules.{rules}
use Rattle.words.proofs.Laws.{handed}
use Rattle.table.proofs.CheckLaws.{points_stop, points_in, wide, bins-stop, bins_in, known, bins_on}
use Rattle.table.proofs.check.sections.Goals as goal

pub returns-in_err-second : goal.returns-in_err-second
returns-in_err-second c = handed _ _ c.from_residual.ensures ∙ points_stop _ _ c.in_err-second.ensures

pub bin_section-requires : goal.bin_section-requires
bin_section-requires c =
    let h = points_in _ _ c.in_ok-second.ensures _ c.read2-np.ensures in
    (h.0, search rules)

pub returns-in_err-third : goal.returns-in_err-third
returns-in_err-third c = handed _ _ c.from_residual-in_err-third.ensures ∙ bins-stop _ _ c.in_ok-second.ensures _ c.read2-np.ensures _ c.in_err-third.ensures

pub read2-nb-requires : goal.read2-nb-requires
read2-nb-requires c =
    let h = points_in _ _ c.in_ok-second.ensures _ c.read2-np.ensures in
    let l = h.0 in
    search rules

pub overflow_add-bins : goal.overflow_add-bins
overflow_add-bins c =
    let h = points_in _ _ c.in_ok-second.ensures _ c.read2-np.ensures in
    let l = h.0 in
    search rules

pub after_bins-requires : goal.after_bins-requires
after_bins-requires c =
    let p = c.in_ok-second.ensures in
    let n = c.read2-np.ensures in
    let h = points_in _ _ p _ n in
    let g = bins_in _ _ p _ n _ c.in_ok-third.ensures _ c.read2-nb.ensures in
    record { at_in_bounds = (g.0, h.1, g.1, search rules, h.2); all_wide = (wide _ _ p _ n, known _ _ p _ n _ c.in_ok-third.ensures _ c.read2-nb.ensures) }

pub returns : goal.returns
returns c = bins_on _ _ c.in_ok-second.ensures _ c.read2-np.ensures _ c.in_ok-third.ensures _ c.read2-nb.ensures _ c.after_bins.ensures
