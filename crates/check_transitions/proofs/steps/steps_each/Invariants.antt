use Prim.Native.Nat.{◌+◌, ◌≤◌, ◌-◌}
use mathlib.Core.Path.{◌≡◌}
use lib.ListN.{length}
use Rattle.model.specs.Format.{read_steps, each}
use Rattle.model.specs.Raw.{lengths_at}
use Rattle.words.specs.Verdicts.{verdict_of}
use Rattle.check_transitions.proofs.steps.steps_each.Given as goal

abbrev pub invariant-loop-i : goal.invariant-loop-i
invariant-loop-i l = (l.i ≤ l.n) × (l.at ≤ length l.t) × (l.sequence ≤ l.q + l.i) × (verdict_of (each (read_steps l.t) (lengths_at l.t l.q l.n) l.start) ≡ verdict_of (each (read_steps l.t) (lengths_at l.t l.sequence (l.n - l.i)) l.at))
