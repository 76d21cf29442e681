use Rattle.model.specs.Format.{byte, kind_from}
use Prim.Native.Nat.{◌+◌}
use mathlib.Core.Path.{refl, sym, ◌∙◌}
use borrow.Author.Tests.{ltb-true}
use Rattle.model.proofs.MeasureBounds.{transition-few}
use Rattle.limits.specs.Bins.{here, point_below}
use Rattle.limits.proofs.RowLaws.{all_start, rows_first, rows_others}
use Rattle.limits.proofs.KindLaws.{cover-few}
use Rattle.limits.proofs.EntryLaws.{entries-more, entries_up, rows_start, rows_on, rows_done}
use borrow.Author.Rules.{rules}
use Rattle.limits.proofs.transitions.add_transitions.Goals as goal

pub loop-i-init : goal.loop-i-init
loop-i-init c =
    let a = c.args in (
      search rules,
      search rules,
      entries_up 1000 _ _ c.requires.entries.0 (search rules),
      entries_up 1000 _ _ c.requires.entries.1 (search rules),
      sym (all_start (point_below a.t.now 16) here 4 a.l.transition_count a.l.transitions) ∙ c.requires.points_below.1,
      rows_start _ _ 4 a.l.transitions a.l.transition_count _,
      rows_start _ _ 4 a.l.transitions a.l.transition_count _,
      refl,
    )

pub add_transition-requires : goal.add_transition-requires
add_transition-requires c =
    let l = c.loop-i in
    let a = c.args in record { b_bound = (search rules, ltb-true _ _ (rows_first (point_below a.t.now 16) here 4 l.at a.l.transition_count l.i l.invariant.4 (search rules))); entries = (entries_up _ 100000 _ l.invariant.2 (search rules), entries_up _ 100000 _ l.invariant.3 (search rules)) }

pub loop-i-preserved : goal.loop-i-preserved
loop-i-preserved c =
    let l = c.loop-i in
    let a = c.args in
    let e = c.add_transition.ensures in (
      search rules,
      search rules,
      entries-more _ 1 _ _ _ _ _ l.invariant.2 (transition-few (kind_from (byte a.t.now (l.at + 1)))) (search rules) e.singles_after,
      entries-more _ 1 _ _ _ _ _ l.invariant.3 (cover-few (kind_from (byte a.t.now (l.at + 1)))) (search rules) e.bars_after,
      rows_others (point_below a.t.now 16) here 4 l.at a.l.transition_count l.i l.invariant.4 (search rules),
      rows_on _ _ 4 l.at a.l.transition_count l.i _ _ l.invariant.5 (search rules) _ e.singles_after,
      rows_on _ _ 4 l.at a.l.transition_count l.i _ _ l.invariant.6 (search rules) _ e.bars_after,
      e.covers ∙ l.invariant.7,
    )

pub returns : goal.returns
returns c =
    let l = c.loop-i in
    let a = c.args in record { covers = l.invariant.7; singles_after = rows_done _ _ 4 l.at a.l.transition_count l.i _ _ l.invariant.5 (search rules); bars_after = rows_done _ _ 4 l.at a.l.transition_count l.i _ _ l.invariant.6 (search rules); entries_2 = (entries_up _ _ _ l.invariant.2 (search rules), entries_up _ _ _ l.invariant.3 (search rules)) }
