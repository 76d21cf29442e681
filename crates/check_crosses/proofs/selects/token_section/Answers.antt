use Rattle.std.proofs.Common.{arith, ◌∙◌}
use Rattle.words.proofs.Laws.{record_in, handed}
use Rattle.check_crosses.proofs.SelectLaws.{tokens_stop, tokens_on}
use Rattle.check_crosses.proofs.selects.token_section.Goals as goal

pub returns-in_err-start : goal.returns-in_err-start
returns-in_err-start c = handed _ _ c.from_residual.ensures ∙ tokens_stop c.args.t.now _ _ c.args.crosses.at c.args.b c.args.crosses.count _ _ _ c.owned_bins.ensures.0 c.owned_tokens-sum.ensures _ c.in_err-start.ensures

pub all_selects-requires-clause-start_in_bounds : goal.all_selects-requires-clause-start_in_bounds
all_selects-requires-clause-start_in_bounds c =
    let h = record_in _ 2 _ _ _ _ c.in_ok-start.ensures in
    let p = c.requires in
    (h, p.at_in_bounds.1, p.at_in_bounds.2, omega arith, p.at_in_bounds.4, p.at_in_bounds.5)

pub returns : goal.returns
returns c = tokens_on c.args.t.now _ _ c.args.crosses.at c.args.b c.args.crosses.count _ _ _ c.owned_bins.ensures.0 c.owned_tokens-sum.ensures _ _ c.in_ok-start.ensures c.all_selects.ensures
