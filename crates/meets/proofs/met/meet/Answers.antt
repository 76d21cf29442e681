use mathlib.Core.Path.{refl, sym, ◌∙◌}
use native.Mathlib.Omega.{arith}
use Rattle.spans.specs.Point.{free_value}
use Rattle.meets.proofs.SearchLaws.{met_start, met_end}
use borrow.Author.Rules.{rules}
use Rattle.meets.proofs.met.meet.Goals as goal

pub reach_of-reach-requires : goal.reach_of-reach-requires
reach_of-reach-requires c = c.requires.n_in_bounds.1

pub loop-i-init : goal.loop-i-init
loop-i-init c =
    let a = c.args in
    let r = c.reach_of-reach.ensures in
    (omega arith, refl, met_start (free_value a.spans.now a.ask.low) a.ask.lo a.ask.hi a.words.now a.n a.flags.now, r.0, r.1)

pub meet_run-i-requires : goal.meet_run-i-requires
meet_run-i-requires c =
    let q = c.requires in
    let l = c.loop-i in
    record { i_lt_n = (omega arith, q.n_in_bounds.0, l.invariant.3, l.invariant.4, q.n_in_bounds.1); all = rw l.invariant.1 q.all }

pub loop-i-smaller : goal.loop-i-smaller
loop-i-smaller c = omega (arith, c.meet_run-i.ensures.0, c.meet_run-i.ensures.1)

pub loop-i-preserved : goal.loop-i-preserved
loop-i-preserved c =
    let l = c.loop-i in
    let e = c.meet_run-i.ensures in
    (e.1, search rules, e.2 ∙ l.invariant.2, l.invariant.3, l.invariant.4)

pub returns : goal.returns
returns c =
    let a = c.args in
    let l = c.loop-i in
    sym (met_end (free_value a.spans.now a.ask.low) a.ask.lo a.ask.hi a.words.now a.n l.i l.flags (omega arith)) ∙ l.invariant.2
