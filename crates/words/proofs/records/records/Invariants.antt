use Rattle.std.proofs.Common.{◌≡◌, ℕ, ◌-◌, ◌≤◌, List, length}
use Rattle.model.specs.Format.{Test, read_record, times}
use Rattle.words.specs.Verdicts.{verdict_of}
use Rattle.words.specs.Records.{TestsOf}
use Rattle.words.proofs.records.records.Given as goal

abbrev pub invariant-loop-i : goal.invariant-loop-i
invariant-loop-i g l =
    (l.i ≤ l.n)
    × (l.at ≤ length l.t)
    × ((tests : ℕ → List Test) → TestsOf (goal.F-post g l.tests) l.t l.size tests → verdict_of (times l.n (read_record l.t l.size tests (λ place. place)) l.start) ≡ verdict_of (times (l.n - l.i) (read_record l.t l.size tests (λ place. place)) l.at))
