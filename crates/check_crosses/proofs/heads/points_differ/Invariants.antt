use Rattle.std.proofs.Common.{◌≡◌, ◌+◌, ◌-◌, ◌≤◌, eqb, map, not}
use Rattle.model.specs.Lists.{up_from, any}
use Rattle.model.specs.Format.{byte, all_different, cross_points}
use Rattle.check_crosses.proofs.heads.points_differ.Given as goal

abbrev pub invariant-loop-i : goal.invariant-loop-i
invariant-loop-i l = (l.i ≤ l.n) × (l.n ≡ byte l.t l.at) × (all_different (cross_points l.t l.at) ≡ all_different (map (λ k. byte l.t (l.at + 1 + k)) (up_from l.i (l.n - l.i))))

abbrev pub invariant-loop-j : goal.invariant-loop-j
invariant-loop-j l =
    not (any (eqb (byte l.t (l.at + 1 + l.i))) (map (λ k. byte l.t (l.at + 1 + k)) (up_from (l.i + 1) (l.n - (l.i + 1))))) ≡ not (any (eqb (byte l.t (l.at + 1 + l.i))) (map (λ k. byte l.t (l.at + 1 + k)) (up_from l.j (l.n - l.j))))
