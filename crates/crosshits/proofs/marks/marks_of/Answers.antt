use mathlib.Core.Path.{sym, ap, ◌∙◌}
use lib.Bits.{or_zero_l}
use Rattle.crosses.specs.Flags.{own_mark}
use Rattle.crosshits.specs.Listed.{list_marks}
use Rattle.crosshits.proofs.ListedLaws.{marks_turn, marks_end}
use Rattle.crosshits.proofs.marks.marks_of.Goals as goal

pub loop-x-init : goal.loop-x-init
loop-x-init c = let a = c.args in or_zero_l (list_marks a.mask a.plan.now a.start a.list.now)

pub loop-x-preserved : goal.loop-x-preserved
loop-x-preserved c =
    let a = c.args in
    let l = c.loop-x in
    let m = c.own_mark-own in
    marks_turn a.mask a.plan.now a.start a.list.now l.x-index m.result l.own c.loop-x-test.true (m.ensures ∙ ap (own_mark a.mask 1) c.element.ensures) ∙ l.invariant

pub returns : goal.returns
returns c =
    let a = c.args in
    let l = c.loop-x in
    sym (marks_end a.mask a.plan.now a.start a.list.now l.x-index l.own c.loop-x-test.false) ∙ l.invariant
