use native.Mathlib.Omega.{arith}
use Rattle.table.proofs.MeasureLaws.{measured_whole, measured_refused}
use Rattle.table.proofs.measure.Goals as goal

pub overflow_add-words : goal.overflow_add-words
overflow_add-words c = let f = c.in-Ok.ensures.few in omega (arith, f.counters, f.points, f.runs)

pub overflow_cast-result : goal.overflow_cast-result
overflow_cast-result c = let f = c.in-Ok.ensures.few in omega (arith, f.counters, f.points, f.runs)

pub returns-in-Ok : goal.returns-in-Ok
returns-in-Ok c = measured_whole _ _ c.in-Ok.ensures.value

pub returns-in-Err : goal.returns-in-Err
returns-in-Err c = measured_refused _ _ c.in-Err.ensures.value
