use Rattle.std.proofs.Common.{arith, rules, ◌∙◌}
use Rattle.words.proofs.Laws.{handed}
use Rattle.check_crosses.proofs.Sections.{heads_room, heads_ok, bins-room, heads_refused, bins-refused, all_read}
use Rattle.check_crosses.proofs.crosses.Goals as goal

pub returns-in_err-ninth : goal.returns-in_err-ninth
returns-in_err-ninth c = handed _ _ c.from_residual.ensures ∙ heads_refused c.args.t.now c.args.points.at c.args.points.count _ c.args.at _ c.in_err-ninth.ensures

pub cross_bin_section-requires : goal.cross_bin_section-requires
cross_bin_section-requires c = let h = heads_room c.args.t.now _ c.args.at _ _ c.in_ok-ninth.ensures c.read2.ensures in (omega arith, search rules, h.1)

pub returns-in_err-tenth : goal.returns-in_err-tenth
returns-in_err-tenth c = handed _ _ c.from_residual-in_err-tenth.ensures ∙ bins-refused c.args.t.now c.args.points.at c.args.points.count _ c.args.at _ _ c.in_ok-ninth.ensures c.read2.ensures _ c.in_err-tenth.ensures

pub overflow_add-ninth : goal.overflow_add-ninth
overflow_add-ninth c = let h = bins-room _ _ _ _ _ c.in_ok-tenth.ensures in omega arith

pub token_section-requires-clause-at_in_bounds : goal.token_section-requires-clause-at_in_bounds
token_section-requires-clause-at_in_bounds c =
    let p = c.requires.at_in_bounds in
    let h = heads_room c.args.t.now _ c.args.at _ _ c.in_ok-ninth.ensures c.read2.ensures in
    let g = bins-room _ _ _ _ _ c.in_ok-tenth.ensures in
    (g.1, p.1, p.2, p.4, h.1, g.0)

pub token_section-requires-clause-all_wide : goal.token_section-requires-clause-all_wide
token_section-requires-clause-all_wide c = (c.requires.all_wide, heads_ok c.args.t.now _ c.args.at _ _ c.in_ok-ninth.ensures c.read2.ensures)

pub returns : goal.returns
returns c = all_read c.args.t.now c.args.points.at c.args.points.count _ c.args.at _ _ c.in_ok-ninth.ensures c.read2.ensures _ _ c.in_ok-tenth.ensures c.token_section.ensures
