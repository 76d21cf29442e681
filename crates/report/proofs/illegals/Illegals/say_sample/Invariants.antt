use Rattle.std.proofs.Common.{◌≤◌}
use Rattle.report.proofs.illegals.Illegals.say_sample.Given as goal

abbrev pub invariant-loop-i : goal.invariant-loop-i
invariant-loop-i l = (l.i ≤ l.i-end) × (l.i-end ≤ 12416)
