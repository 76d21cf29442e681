use mathlib.Core.Path.{◌∙◌}
use native.Mathlib.Omega.{arith}
use lib.ListN.{length-set}
use lib.Seq.{get_or-set_same}
use Rattle.model.specs.Format.{table_of}
use Rattle.model.proofs.RawExact.{few_points}
use Rattle.lists.proofs.PlannedLaws.{planned_set}
use Rattle.lists.proofs.ListLaws.{sizes}
use Rattle.lists.proofs.put_ready.Goals as goal

pub overflow_cast-lists : goal.overflow_cast-lists
overflow_cast-lists c =
    let a = c.args in
    let p = c.requires in
    omega (arith, p.1.counters, (sizes a.t.now p.0 a.kinds.now p.2).counters)

pub returns : goal.returns
returns c =
    let a = c.args in
    let p = c.requires in
    let q = c.put_planned in
    let t = table_of a.t.now in
    let few = few_points a.t.now p.0 in (
      record { planned = planned_set t q.new.plan q.new.lists 63 a.x.counters (omega arith) (omega arith) few q.ensures.0; counters = get_or-set_same q.new.lists 63 a.x.counters 0 (omega (arith, q.ensures.0.room)) ∙ p.1.counters },
      q.ensures.1,
      simp length-set q.ensures.2,
    )
