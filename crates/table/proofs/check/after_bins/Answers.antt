use mathlib.Core.Path.{◌∙◌}
use borrow.Author.Rules.{rules}
use Rattle.words.proofs.Laws.{handed}
use Rattle.table.proofs.CheckLaws.{ranges_stop, ranges_in, transitions-stop, transitions-in, crosses-last}
use Rattle.table.proofs.check.after_bins.Goals as goal

pub returns-in_err-fourth : goal.returns-in_err-fourth
returns-in_err-fourth c = handed _ _ c.from_residual.ensures ∙ ranges_stop _ _ _ _ _ _ _ c.in_err-fourth.ensures

pub transition_bins-requires : goal.transition_bins-requires
transition_bins-requires c =
    let h = ranges_in _ _ _ _ _ _ _ c.in_ok-fourth.ensures in
    search rules

pub returns-in_err-eighth : goal.returns-in_err-eighth
returns-in_err-eighth c = handed _ _ c.from_residual-in_err-eighth.ensures ∙ transitions-stop _ _ _ _ _ _ _ c.in_ok-fourth.ensures _ c.in_err-eighth.ensures

pub crosses-requires : goal.crosses-requires
crosses-requires c =
    let h = transitions-in _ _ _ _ _ _ _ c.in_ok-fourth.ensures _ c.in_ok-eighth.ensures in
    record { at_in_bounds = search rules; all_wide = search rules }

pub returns : goal.returns
returns c = crosses-last _ _ _ _ _ _ _ c.in_ok-fourth.ensures _ c.in_ok-eighth.ensures _ c.crosses.ensures
