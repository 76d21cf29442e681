-- `engine::find_in` meets its contract. Assumes nothing.
use native.Mathlib.Omega.{arith}
use Rattle.model.specs.Format.{table_of}
use Rattle.engine.proofs.EngineLaws.{planned-listed}
use Rattle.engine.proofs.find_in.Goals as goal

pub find_all-requires : goal.find_all-requires
find_all-requires g c =
    let p = c.requires in
    record { t_value = (p.0, p.1, p.2); values_plan = (p.5.values, p.5.origins, omega (arith, p.5.room), omega (arith, p.6)) }

pub put_hits-requires : goal.put_hits-requires
put_hits-requires g c =
    let a = c.args in
    let p = c.requires in
    let f = c.find_all in
    let l = planned-listed (table_of a.t.now) a.plan.now a.lists.now p.5 in
    record { t_value = (p.0, p.1, p.2, p.3, p.4); found = (f.ensures.0, omega (arith, p.6, f.ensures.1), l, p.5.marks, p.5.room) }
