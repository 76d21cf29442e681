use Rattle.std.proofs.Common.{◌≡◌, ◌-◌, ◌≤◌}
use Rattle.words.specs.Verdicts.{verdict_in, pass}
use Rattle.check_crosses.specs.Crosses.{point_tests}
use Rattle.check_crosses.proofs.heads.point_tests.Given as goal

abbrev pub invariant-loop-i : goal.invariant-loop-i
invariant-loop-i l = (l.i ≤ 4) × (verdict_in (point_tests l.t l.points l.at 0 4) pass ≡ verdict_in (point_tests l.t l.points l.at l.i (4 - l.i)) pass)
