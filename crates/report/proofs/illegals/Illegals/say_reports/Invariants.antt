use Rattle.std.proofs.Common.{◌*◌, ◌≤◌}
use Rattle.report.proofs.illegals.Illegals.say_reports.Given as goal

abbrev pub invariant-loop-i : goal.invariant-loop-i
invariant-loop-i l = (l.i ≤ l.taken) × (l.at ≤ 12416 * l.i)
